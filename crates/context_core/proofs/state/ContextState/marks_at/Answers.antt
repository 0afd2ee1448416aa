use Rattle.std.proofs.Common.{ap, refl, sym}
use Rattle.std.specs.Prelude.{None, Some}
use Rattle.context_core.proofs.EndReaders.{marks-none, marks-some}
use Rattle.context_core.proofs.state.ContextState.marks_at.Goals as goal

pub returns-in_default : goal.returns-in_default
returns-in_default c = rw (← c.self.view_is) (λ pool n. marks-none pool n _ c.args.place (sym c.in_default.ensures.entry))

pub returns-in-None : goal.returns-in-None
returns-in-None c = rw (← c.self.view_is) (λ pool n. marks-some pool n _ c.args.place (c.in-Some.field-0-0.now, c.in-Some.slot.now) None None (sym c.in-Some.ensures.entry) c.in-None.is refl)

pub returns-in-Some-link : goal.returns-in-Some-link
returns-in-Some-link c = rw (← c.self.view_is) (λ pool n. marks-some pool n _ c.args.place (c.in-Some.field-0-0.now, c.in-Some.slot.now) (Some c.in-Some-link.link) (Some c.marks.result) (sym c.in-Some.ensures.entry) c.in-Some-link.is (ap Some (c.marks.ensures pool)))
