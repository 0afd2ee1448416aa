use Rattle.std.proofs.Common.{rules, arith}
use Rattle.std.proofs.lemmas.Grind.{common_steps}
use Rattle.device_differences.specs.Differences.{completion_difference}
use Rattle.device_differences.proofs.Found.{found-here, passed-here, found-end}
use Rattle.device_differences.proofs.lists.entries.Goals as goal

pub returns-then-is_some : goal.returns-then-is_some
returns-then-is_some c = found-here completion_difference c.args.a.now.entries c.args.b.now.entries c.loop-i.i c.unwrap-x.result.now c.unwrap-y.result.now c.completion-found.result (grind (arith, common_steps)) (grind (arith, common_steps)) c.completion-found.ensures (search rules) c.loop-i.invariant

pub loop-i-preserved : goal.loop-i-preserved
loop-i-preserved c = passed-here completion_difference c.args.a.now.entries c.args.b.now.entries c.loop-i.i c.unwrap-x.result.now c.unwrap-y.result.now c.completion-found.result (grind (arith, common_steps)) (grind (arith, common_steps)) c.completion-found.ensures (search rules) c.loop-i.invariant

pub returns : goal.returns
returns c = found-end completion_difference c.args.a.now.entries c.args.b.now.entries c.loop-i.i c.apart.result (omega arith) (grind (arith, common_steps)) c.loop-i.invariant
