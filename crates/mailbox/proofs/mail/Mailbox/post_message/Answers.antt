use Rattle.std.proofs.Common.{sym, subst, ◌∙◌, List}
use Rattle.protocol.specs.declared.events.Event.{Event}
use Rattle.mailbox_rules.specs.declared.faults.MailFault.TheVariants as fault
use Rattle.mailbox_rules.specs.State as state
use Rattle.mailbox_rules.specs.Calls.{IsSent, Refused}
use Rattle.mailbox.specs.Steps.{IsAsked, Replies, Shows, sent_with}
use Rattle.mailbox.proofs.Sent.{sent_badly, sent_well}
use Rattle.mailbox.proofs.mail.Mailbox.post_message.Goals as goal

pub returns-then-is_too_many-clause-err : goal.returns-then-is_too_many-clause-err
returns-then-is_too_many-clause-err c = λ m shows.
    let s : Shows (record { world = c.self.inside.world; channels = c.self.inside.channels.items; owed = c.self.inside.owed.items }) m = (subst (λ (x : state.Mail). Shows x m) (sym c.self.view_is) shows) in
    subst (λ (cs : List state.Channel). Replies (record { world = c.ask.new.world; channels = cs; owed = c.self.inside.owed.items }) (Refused fault.Ended) (sent_with m c.args.i c.args.length c.args.is_stored)) (sym c.end_at.ensures)
    (sent_badly (record { world = c.self.inside.world; channels = c.self.inside.channels.items; owed = c.self.inside.owed.items }) m c.args.i c.args.length c.args.is_stored c.ask.new.world c.in_ok-answer.answer s
    (subst (λ (e : Event). IsAsked c.self.inside.world c.ask.new.world e c.in_ok-answer.answer) c.sends.ensures.event c.in_ok-answer.ensures.ok) (sym c.is_too_many.ensures ∙ c.if-is_too_many.true))

pub returns-clause-ok : goal.returns-clause-ok
returns-clause-ok c = λ m shows.
    let s : Shows (record { world = c.self.inside.world; channels = c.self.inside.channels.items; owed = c.self.inside.owed.items }) m = (subst (λ (x : state.Mail). Shows x m) (sym c.self.view_is) shows) in
    subst (λ (cs : List state.Channel). Replies (record { world = c.ask.new.world; channels = cs; owed = c.self.inside.owed.items }) IsSent (sent_with m c.args.i c.args.length c.args.is_stored)) (sym c.use_slot_at.ensures)
    (sent_well (record { world = c.self.inside.world; channels = c.self.inside.channels.items; owed = c.self.inside.owed.items }) m c.args.i c.args.length c.args.is_stored c.ask.new.world c.in_ok-answer.answer s
    (subst (λ (e : Event). IsAsked c.self.inside.world c.ask.new.world e c.in_ok-answer.answer) c.sends.ensures.event c.in_ok-answer.ensures.ok) (sym c.is_too_many.ensures ∙ c.if-is_too_many.false))
