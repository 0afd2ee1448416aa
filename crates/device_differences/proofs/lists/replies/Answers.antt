use Rattle.std.proofs.Common.{rules, arith}
use Rattle.std.proofs.lemmas.Grind.{common_steps}
use Rattle.device_differences.specs.Differences.{reply_difference}
use Rattle.device_differences.proofs.Found.{found-here, passed-here, found-end}
use Rattle.device_differences.proofs.lists.replies.Goals as goal

pub returns-then-is_some : goal.returns-then-is_some
returns-then-is_some c = found-here reply_difference c.args.a.now c.args.b.now c.loop-i.i (record { number = c.unwrap-x.result.0; old = c.unwrap-x.result.1 }) (record { number = c.unwrap-y.result.0; old = c.unwrap-y.result.1 }) c.reply-found.result (grind (arith, common_steps)) (grind (arith, common_steps)) c.reply-found.ensures (search rules) c.loop-i.invariant

pub loop-i-preserved : goal.loop-i-preserved
loop-i-preserved c = passed-here reply_difference c.args.a.now c.args.b.now c.loop-i.i (record { number = c.unwrap-x.result.0; old = c.unwrap-x.result.1 }) (record { number = c.unwrap-y.result.0; old = c.unwrap-y.result.1 }) c.reply-found.result (grind (arith, common_steps)) (grind (arith, common_steps)) c.reply-found.ensures (search rules) c.loop-i.invariant

pub returns : goal.returns
returns c = found-end reply_difference c.args.a.now c.args.b.now c.loop-i.i c.apart.result (omega arith) (grind (arith, common_steps)) c.loop-i.invariant
