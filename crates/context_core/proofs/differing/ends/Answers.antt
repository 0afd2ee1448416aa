use Rattle.std.proofs.Common.{◌≡◌, ◌∙◌, ap, sym, rules, arith}
use Rattle.std.specs.Prelude.{Some, slice_get}
use Rattle.std.specs.Option.{option_map}
use Rattle.std.specs.Map.Iter.{deref_pair}
use Rattle.std.proofs.lemmas.Grind.{common_steps}
use Rattle.device_differences.specs.Differences.{end_difference}
use Rattle.context_core.specs.Context.{HasQueues, end_of}
use Rattle.context_core.specs.Payloads.{HasPayloads}
use Rattle.device_differences.proofs.Found.{found-mapped, passed-mapped, end-mapped}
use Rattle.context_core.proofs.ListPrefixes.{at_place}
use Rattle.context_core.proofs.differing.ends.Goals as goal

pub slots-found-requires-clause-placed : goal.slots-found-requires-clause-placed
slots-found-requires-clause-placed c =
    let there : slice_get c.args.a.now.entries c.loop-i.i ≡ Some (c.unwrap-x.result.0.now, c.unwrap-x.result.1.now) = sym c.get_index.ensures.entry ∙ ap (option_map deref_pair) c.unwrap-x.ensures in
    at_place (HasQueues c.args.queues.now.entries) c.args.a.now.entries c.loop-i.i (c.unwrap-x.result.0.now, c.unwrap-x.result.1.now) there c.requires.placed

pub slots-found-requires-clause-other_placed : goal.slots-found-requires-clause-other_placed
slots-found-requires-clause-other_placed c =
    let there : slice_get c.args.b.now.entries c.loop-i.i ≡ Some (c.unwrap-y.result.0.now, c.unwrap-y.result.1.now) = sym c.get_index-in-loop-i.ensures.entry ∙ ap (option_map deref_pair) c.unwrap-y.ensures in
    at_place (HasQueues c.args.other_queues.now.entries) c.args.b.now.entries c.loop-i.i (c.unwrap-y.result.0.now, c.unwrap-y.result.1.now) there c.requires.other_placed

pub slots-found-requires-clause-held : goal.slots-found-requires-clause-held
slots-found-requires-clause-held c =
    let there : slice_get c.args.a.now.entries c.loop-i.i ≡ Some (c.unwrap-x.result.0.now, c.unwrap-x.result.1.now) = sym c.get_index.ensures.entry ∙ ap (option_map deref_pair) c.unwrap-x.ensures in
    at_place (HasPayloads c.args.pool.now) c.args.a.now.entries c.loop-i.i (c.unwrap-x.result.0.now, c.unwrap-x.result.1.now) there c.requires.held

pub slots-found-requires-clause-other_held : goal.slots-found-requires-clause-other_held
slots-found-requires-clause-other_held c =
    let there : slice_get c.args.b.now.entries c.loop-i.i ≡ Some (c.unwrap-y.result.0.now, c.unwrap-y.result.1.now) = sym c.get_index-in-loop-i.ensures.entry ∙ ap (option_map deref_pair) c.unwrap-y.ensures in
    at_place (HasPayloads c.args.other_pool.now) c.args.b.now.entries c.loop-i.i (c.unwrap-y.result.0.now, c.unwrap-y.result.1.now) there c.requires.other_held

pub returns-then-is_some : goal.returns-then-is_some
returns-then-is_some c = found-mapped end_difference (end_of c.args.pool.now c.args.queues.now.entries) (end_of c.args.other_pool.now c.args.other_queues.now.entries) c.args.a.now.entries c.args.b.now.entries c.loop-i.i (c.unwrap-x.result.0.now, c.unwrap-x.result.1.now) (c.unwrap-y.result.0.now, c.unwrap-y.result.1.now) c.slots-found.result (sym c.get_index.ensures.entry ∙ ap (option_map deref_pair) c.unwrap-x.ensures) (sym c.get_index-in-loop-i.ensures.entry ∙ ap (option_map deref_pair) c.unwrap-y.ensures) c.slots-found.ensures (search rules) c.loop-i.invariant

pub loop-i-preserved : goal.loop-i-preserved
loop-i-preserved c = passed-mapped end_difference (end_of c.args.pool.now c.args.queues.now.entries) (end_of c.args.other_pool.now c.args.other_queues.now.entries) c.args.a.now.entries c.args.b.now.entries c.loop-i.i (c.unwrap-x.result.0.now, c.unwrap-x.result.1.now) (c.unwrap-y.result.0.now, c.unwrap-y.result.1.now) c.slots-found.result (sym c.get_index.ensures.entry ∙ ap (option_map deref_pair) c.unwrap-x.ensures) (sym c.get_index-in-loop-i.ensures.entry ∙ ap (option_map deref_pair) c.unwrap-y.ensures) c.slots-found.ensures (search rules) c.loop-i.invariant

pub returns : goal.returns
returns c = end-mapped end_difference (end_of c.args.pool.now c.args.queues.now.entries) (end_of c.args.other_pool.now c.args.other_queues.now.entries) c.args.a.now.entries c.args.b.now.entries c.loop-i.i c.apart.result (omega arith) (grind (arith, common_steps)) c.loop-i.invariant
