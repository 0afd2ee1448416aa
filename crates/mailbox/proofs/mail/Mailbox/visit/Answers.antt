use Rattle.std.proofs.Common.{◌≡◌, ◌<◌, ◌≤◌, [], length, sym, ap, ◌∙◌, subst, arith}
use Rattle.protocol.specs.declared.events.Event.{Event}
use Rattle.mailbox_rules.specs.State as state
use Rattle.mailbox.specs.Steps.{IsAsked, Shows}
use Rattle.mailbox.proofs.Advancing.{polled_none, polled_some}
use Rattle.mailbox.proofs.Polled.{few_answered, none_left}
use Rattle.mailbox.proofs.mail.Mailbox.visit.Goals as goal

pub returns-then-len-eq0-clause-ok : goal.returns-then-len-eq0-clause-ok
returns-then-len-eq0-clause-ok c = λ m shows.
    let s : Shows (record { world = c.self.inside.world; channels = c.self.inside.channels.items; owed = c.self.inside.owed.items }) m = subst (λ (x : state.Mail). Shows x m) (sym c.self.view_is) shows in
    polled_none (record { world = c.self.inside.world; channels = c.self.inside.channels.items; owed = c.reserve.new.self.items }) m c.args.n c.ask.new.world c.in_ok-answer.answer
    (record { world = s.world; channels = s.channels; owed = c.in_ok-reserve.ensures.items ∙ s.owed })
    (subst (λ (e : Event). IsAsked c.self.inside.world c.ask.new.world e c.in_ok-answer.answer) c.polls.ensures.event c.in_ok-answer.ensures.ok)
    (sym c.entries_in-entries.ensures ∙ none_left c.entries_in-entries.result (sym c.len.ensures ∙ c.if-len-eq0.true))

pub note_all-requires : goal.note_all-requires
note_all-requires c =
    let few = few_answered c.self.inside.world c.args.n c.polls.result c.in_ok-answer.answer c.as_slice.result.now c.in_ok-answer.ensures.own c.polls.ensures.event (c.as_slice.ensures ∙ c.entries_in-entries.ensures) in
    omega (arith, few, c.in_ok-reserve.ensures.ok, c.in_ok-reserve.ensures.len)

pub returns-clause-ok : goal.returns-clause-ok
returns-clause-ok c = λ m shows.
    let s : Shows (record { world = c.self.inside.world; channels = c.self.inside.channels.items; owed = c.self.inside.owed.items }) m = subst (λ (x : state.Mail). Shows x m) (sym c.self.view_is) shows in
    let same : length c.as_slice.result.now ≡ length c.entries_in-entries.result = ap (λ xs. length xs) c.as_slice.ensures in
    polled_some (record { world = c.self.inside.world; channels = c.self.inside.channels.items; owed = c.reserve.new.self.items }) m c.args.n c.ask.new.world c.in_ok-answer.answer
    (record { world = s.world; channels = s.channels; owed = c.in_ok-reserve.ensures.items ∙ s.owed })
    (subst (λ (e : Event). IsAsked c.self.inside.world c.ask.new.world e c.in_ok-answer.answer) c.polls.ensures.event c.in_ok-answer.ensures.ok)
    c.as_slice.result.now c.note_all.new.channels.items c.note_all.new.owed.items (sym (c.as_slice.ensures ∙ c.entries_in-entries.ensures)) (omega (arith, same, c.len.ensures, c.if-len-eq0.false)) (λ x. c.note_all.ensures.noted x)
