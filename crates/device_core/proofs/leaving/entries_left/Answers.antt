-- The entries of ends come one after another.
use Rattle.std.proofs.Common.{arith, ◌∙◌, ◌≤◌, ◌<◌, map, sym, ap, length}
use Rattle.std.specs.List.{flat_map}
use Rattle.std.proofs.lemmas.List.{take_all}
use Rattle.context_core.specs.Context.{context_in}
use Rattle.device_core.specs.Leaving.{left_by}
use Rattle.device_core.specs.Parts.{entry_of}
use Rattle.device_core.proofs.Leavings.{husk-entries, left-next}
use Rattle.device_core.proofs.leaving.entries_left.Goals as goal

pub loop-place-init : goal.loop-place-init
loop-place-init c pool = ap (map entry_of) (c.new-entries.ensures ∙ c.new.ensures.items)

pub loop-place-preserved : goal.loop-place-preserved
loop-place-preserved c pool =
    let within : c.loop-place.place < length (context_in pool c.args.name c.args.state.now).ends = omega (arith, c.loop-place-test.true, c.end_count-place-end.ensures pool) in
    left-next (context_in pool c.args.name c.args.state.now).ends c.loop-place.place within c.loop-place.entries c.put_entry.new.entries c.entry_left.result (c.loop-place.invariant pool) c.in_ok-put_entry.ensures (c.entry_left.ensures pool)

pub returns : goal.returns
returns c pool =
    let all : length (context_in pool c.args.name c.args.state.now).ends ≤ c.loop-place.place = omega (arith, c.loop-place-test.false, c.end_count-place-end.ensures pool) in
    c.loop-place.invariant pool ∙ (ap (flat_map left_by) (take_all c.loop-place.place (context_in pool c.args.name c.args.state.now).ends all) ∙ sym (husk-entries (context_in pool c.args.name c.args.state.now)))
