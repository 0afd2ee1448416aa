use Rattle.std.proofs.Common.{rules, arith}
use Rattle.std.proofs.lemmas.Grind.{common_steps}
use Rattle.device_differences.proofs.Found.{numbers-here, numbers-passed, numbers-end}
use Rattle.device_differences.proofs.between.bytes.Goals as goal

pub returns-then-is_some : goal.returns-then-is_some
returns-then-is_some c = numbers-here c.args.a.now c.args.b.now c.loop-i.i c.apart-found.result (omega arith) (omega arith) (grind (arith, common_steps)) (search rules) c.loop-i.invariant

pub loop-i-preserved : goal.loop-i-preserved
loop-i-preserved c = numbers-passed c.args.a.now c.args.b.now c.loop-i.i c.apart-found.result (omega arith) (omega arith) (grind (arith, common_steps)) (search rules) c.loop-i.invariant

pub returns : goal.returns
returns c = numbers-end c.args.a.now c.args.b.now c.loop-i.i c.apart.result (omega arith) (grind (arith, common_steps)) c.loop-i.invariant
