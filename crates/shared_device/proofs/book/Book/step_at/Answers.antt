-- The step at a place.
use Rattle.std.proofs.Common.{◌≡◌, Some, slice_get, option_map, Global, ap, sym, ◌∙◌}
use Rattle.std.specs.Arc.{arc_value}
use Rattle.std.specs.declared.sync.Arc.{Arc}
use Rattle.std.proofs.lemmas.Option.{slice_get_past}
use Rattle.shared_device.specs.declared.receipt.Step.{Step}
use Rattle.shared_device.proofs.Held.{event_at, read_there, step_there}
use Rattle.shared_device.proofs.book.Book.step_at.Goals as goal

pub returns-in-Some-clause-event : goal.returns-in-Some-clause-event
returns-in-Some-clause-event c =
    let lookup = c.in-Some.ensures.lookup in
    let items = c.self.inside.journal.items in
    let there : slice_get items c.args.place ≡ Some c.in-Some.step.now = read_there items c.deref.result.now c.args.place c.in-Some.step.now c.deref.ensures.value lookup.3.0 lookup.1 in
    ap (λ s. Some s.event) c.deref-in-Some.ensures ∙ sym (event_at c.args.self.now c.self.inside.opening items c.args.place c.self.view_is ∙ ap (option_map (λ (s : Arc Step Global). (arc_value s).event)) there)

pub returns-in-None-clause-event : goal.returns-in-None-clause-event
returns-in-None-clause-event c =
    let items = c.self.inside.journal.items in
    let past = slice_get_past c.deref.result.now c.args.place c.in-None.ensures.lookup.3 in
    sym (event_at c.args.self.now c.self.inside.opening items c.args.place c.self.view_is ∙ ap (option_map (λ (s : Arc Step Global). (arc_value s).event)) (ap (λ xs. slice_get xs c.args.place) (sym c.deref.ensures.value) ∙ past))

pub returns-in-Some-clause-is : goal.returns-in-Some-clause-is
returns-in-Some-clause-is c =
    let lookup = c.in-Some.ensures.lookup in
    let items = c.self.inside.journal.items in
    let there : slice_get items c.args.place ≡ Some c.in-Some.step.now = read_there items c.deref.result.now c.args.place c.in-Some.step.now c.deref.ensures.value lookup.3.0 lookup.1 in
    step_there c.args.self.now c.self.inside.opening items c.self.inside.device c.args.place c.in-Some.step.now c.deref-in-Some.result.now c.self.view_is c.self.invariant there c.deref-in-Some.ensures
