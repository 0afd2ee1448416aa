use Rattle.std.proofs.Common.{◌≡◌, ◌<◌, ◌≤◌, sym, ap, ◌∙◌, subst, arith, Some, None}
use Rattle.std.specs.List.{position}
use Rattle.std.proofs.lemmas.List.Quantifiers.{position-Some}
use Rattle.std.proofs.lemmas.Option.{slice_get-get_or}
use Rattle.mailbox_rules.specs.State as state
use Rattle.mailbox_rules.specs.Working.{may_be_done, work_step}
use Rattle.mailbox.specs.Steps.{IsStep, Shows}
use Rattle.mailbox.proofs.Advancing.{does_due, ends_here, polls_next}
use Rattle.mailbox.proofs.Worked.{at_next}
use Rattle.mailbox.proofs.mail.Mailbox.step.Goals as goal

pub returns-in-Some-clause-ok : goal.returns-in-Some-clause-ok
returns-in-Some-clause-ok c = λ m shows.
    let v : state.Mail = record { world = c.self.inside.world; channels = c.self.inside.channels.items; owed = c.self.inside.owed.items } in
    let is : Some c.in-Some.k ≡ position (may_be_done v.world) v.owed = sym c.in-Some.is ∙ (c.first_due.ensures ∙ ap (λ ds. position (may_be_done c.self.inside.world) ds) c.as_slice.ensures.value) in
    does_due v m c.args.next (subst (λ (x : state.Mail). Shows x m) (sym c.self.view_is) shows) c.in-Some.k c.index-due.result.now c.do_due.new.self is
    (slice_get-get_or v.owed c.in-Some.k c.index-due.result.now ((position-Some (may_be_done v.world) v.owed c.in-Some.k c.index-due.result.now (sym is)).0) ∙ ap (λ d. Some d) (sym c.index-due.ensures)) (c.in_ok-do_due.ensures.ok m shows)

pub returns-then-from-len-clause-ok : goal.returns-then-from-len-clause-ok
returns-then-from-len-clause-ok c = λ m shows.
    let v : state.Mail = record { world = c.self.inside.world; channels = c.self.inside.channels.items; owed = c.self.inside.owed.items } in
    let is : None ≡ position (may_be_done v.world) v.owed = sym c.in_default.is ∙ (c.first_due.ensures ∙ ap (λ ds. position (may_be_done c.self.inside.world) ds) c.as_slice.ensures.value) in
    subst (λ (x : state.Mail). IsStep (work_step (at_next m c.args.next)) None x m) c.self.view_is
    (ends_here v m c.args.next (subst (λ (x : state.Mail). Shows x m) (sym c.self.view_is) shows) is (omega (arith, c.len.ensures, c.from.ensures, c.if-from-len.true, c.self.inside.channels.ok.0)))

pub returns-clause-ok : goal.returns-clause-ok
returns-clause-ok c = λ m shows.
    let v : state.Mail = record { world = c.self.inside.world; channels = c.self.inside.channels.items; owed = c.self.inside.owed.items } in
    let is : None ≡ position (may_be_done v.world) v.owed = sym c.in_default.is ∙ (c.first_due.ensures ∙ ap (λ ds. position (may_be_done c.self.inside.world) ds) c.as_slice.ensures.value) in
    polls_next v m c.args.next (subst (λ (x : state.Mail). Shows x m) (sym c.self.view_is) shows) c.in_ok-visit.field-0 c.visit.new.self is (omega (arith, c.len.ensures, c.from.ensures, c.if-from-len.false, c.self.inside.channels.ok.0)) (c.in_ok-visit.ensures.ok m shows)
