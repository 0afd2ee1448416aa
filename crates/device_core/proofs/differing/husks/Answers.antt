use Rattle.std.proofs.Common.{rules, arith}
use Rattle.std.proofs.lemmas.Grind.{common_steps}
use Rattle.device_differences.specs.Differences.{husk_difference}
use Rattle.device_core.specs.Parts.{husk_in}
use Rattle.device_differences.proofs.Found.{found-mapped, passed-mapped, end-mapped}
use Rattle.device_core.proofs.differing.husks.Goals as goal

pub returns-then-is_some : goal.returns-then-is_some
returns-then-is_some c = found-mapped husk_difference husk_in husk_in c.args.a.now.entries c.args.b.now.entries c.loop-i.i (c.unwrap-x.result.0.now, c.unwrap-x.result.1.now) (c.unwrap-y.result.0.now, c.unwrap-y.result.1.now) c.husk-found.result (grind (arith, common_steps)) (grind (arith, common_steps)) c.husk-found.ensures (search rules) c.loop-i.invariant

pub loop-i-preserved : goal.loop-i-preserved
loop-i-preserved c = passed-mapped husk_difference husk_in husk_in c.args.a.now.entries c.args.b.now.entries c.loop-i.i (c.unwrap-x.result.0.now, c.unwrap-x.result.1.now) (c.unwrap-y.result.0.now, c.unwrap-y.result.1.now) c.husk-found.result (grind (arith, common_steps)) (grind (arith, common_steps)) c.husk-found.ensures (search rules) c.loop-i.invariant

pub returns : goal.returns
returns c = end-mapped husk_difference husk_in husk_in c.args.a.now.entries c.args.b.now.entries c.loop-i.i c.apart.result (omega arith) (grind (arith, common_steps)) c.loop-i.invariant
