use Rattle.std.proofs.Common.{◌≡◌, rules, arith}
use Rattle.std.specs.Prelude.{Some, slice_get}
use Rattle.std.proofs.lemmas.Grind.{common_steps}
use Rattle.device_differences.specs.Differences.{context_difference}
use Rattle.context_core.specs.Context.{IsContext}
use Rattle.context_core.proofs.ListPrefixes.{at_place}
use Rattle.device_core.specs.Parts.{held_in}
use Rattle.device_differences.proofs.Found.{found-mapped, passed-mapped, end-mapped}
use Rattle.device_core.proofs.differing.contexts.Goals as goal

pub difference-found-requires-clause-is : goal.difference-found-requires-clause-is
difference-found-requires-clause-is c =
    let there : slice_get c.args.a.now.entries c.loop-i.i ≡ Some (c.unwrap-x.result.0.now, c.unwrap-x.result.1.now) = grind (arith, common_steps) in
    at_place (λ e. IsContext c.args.pool.now e.1) c.args.a.now.entries c.loop-i.i (c.unwrap-x.result.0.now, c.unwrap-x.result.1.now) there c.requires.are

pub difference-found-requires-clause-other_is : goal.difference-found-requires-clause-other_is
difference-found-requires-clause-other_is c =
    let there : slice_get c.args.b.now.entries c.loop-i.i ≡ Some (c.unwrap-y.result.0.now, c.unwrap-y.result.1.now) = grind (arith, common_steps) in
    at_place (λ e. IsContext c.args.other_pool.now e.1) c.args.b.now.entries c.loop-i.i (c.unwrap-y.result.0.now, c.unwrap-y.result.1.now) there c.requires.other_are

pub returns-then-is_some : goal.returns-then-is_some
returns-then-is_some c = found-mapped context_difference (held_in c.args.pool.now) (held_in c.args.other_pool.now) c.args.a.now.entries c.args.b.now.entries c.loop-i.i (c.unwrap-x.result.0.now, c.unwrap-x.result.1.now) (c.unwrap-y.result.0.now, c.unwrap-y.result.1.now) c.difference-found.result (grind (arith, common_steps)) (grind (arith, common_steps)) c.difference-found.ensures (search rules) c.loop-i.invariant

pub loop-i-preserved : goal.loop-i-preserved
loop-i-preserved c = passed-mapped context_difference (held_in c.args.pool.now) (held_in c.args.other_pool.now) c.args.a.now.entries c.args.b.now.entries c.loop-i.i (c.unwrap-x.result.0.now, c.unwrap-x.result.1.now) (c.unwrap-y.result.0.now, c.unwrap-y.result.1.now) c.difference-found.result (grind (arith, common_steps)) (grind (arith, common_steps)) c.difference-found.ensures (search rules) c.loop-i.invariant

pub returns : goal.returns
returns c = end-mapped context_difference (held_in c.args.pool.now) (held_in c.args.other_pool.now) c.args.a.now.entries c.args.b.now.entries c.loop-i.i c.apart.result (omega arith) (grind (arith, common_steps)) c.loop-i.invariant
