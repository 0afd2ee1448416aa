use Rattle.std.proofs.Common.{◌++◌, [], ap, sym, ◌∙◌, arith}
use Rattle.std.specs.Option.{option_map}
use Rattle.std.specs.Map.Iter.{deref_pair}
use Rattle.std.proofs.lemmas.Option.{get_or_from_slice_get, slice_get_within}
use Rattle.serve_rules.specs.Turns.{due_before}
use Rattle.serve_engine.proofs.Turning.{due_end, due_on}
use Rattle.serve_engine.proofs.timers.due_numbers.Goals as goal

pub loop-place-preserved : goal.loop-place-preserved
loop-place-preserved c =
    let p = c.unwrap.result in
    let ts = c.args.timers.now.entries in
    let here = sym c.get_index.ensures.entry ∙ ap (option_map deref_pair) c.unwrap.ensures in
    due_on c.args.now ts c.loop-place.place (p.0.now, p.1.now) c.loop-place.due.items c.push_due.new.numbers.items
    (slice_get_within ts c.loop-place.place (p.0.now, p.1.now) here)
    (sym (get_or_from_slice_get ts c.loop-place.place (p.0.now, p.1.now) (p.0.now, p.1.now) here))
    (c.in_ok-push_due.ensures ∙ ap (λ d. c.loop-place.due.items ++ due_before p.0.now d []) c.is_due.ensures)
    ∙ c.loop-place.invariant

pub returns : goal.returns
returns c = due_end c.args.now c.args.timers.now.entries c.loop-place.place c.loop-place.due.items (omega (arith, c.loop-place-test.false, c.len-place-end.ensures.len)) c.loop-place.invariant
