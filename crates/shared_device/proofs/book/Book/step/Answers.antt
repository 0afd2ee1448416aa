-- One more step is kept.
use Rattle.std.proofs.Common.{◌≡◌, ◌++◌, ◌∷◌, [], rules, ap, sym, subst, ◌∙◌}
use Rattle.std.specs.Arc.{arc_with_value}
use Rattle.protocol.specs.Events.{IsLawfulEvent}
use Rattle.protocol.specs.declared.events.Event.{Event}
use Rattle.shared_device.proofs.Held.{held_more}
use Rattle.shared_device.proofs.book.Book.step.Goals as goal

pub invariant_of-self-2 : goal.invariant_of-self-2
invariant_of-self-2 c =
    let s = arc_with_value c.in_ok-step.step (record c.in-Some.noted.now { outcome = c.in_ok-noted.field-0 }) in
    let items : c.push.new.self.items ≡ c.self.inside.journal.items ++ s ∷ [] = search rules in
    let event : c.in-Some.noted.now.event ≡ c.args.event = ap (λ v. v.event) c.in-Some.ensures.value ∙ (ap (λ v. v.event) c.in_ok-step.ensures.ok ∙ c.asked.ensures) in
    held_more c.self.inside.opening c.self.inside.journal.items c.push.new.self.items c.self.inside.device c.step.new.self s c.self.invariant items (subst (λ (e : Event). IsLawfulEvent e) (sym event) c.requires) c.in_ok-noted.ensures.ok c.in_ok-noted.ensures.image
