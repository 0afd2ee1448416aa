use Rattle.std.proofs.Common.{sym, subst, ◌∙◌}
use Rattle.mailbox_rules.specs.State as state
use Rattle.mailbox.specs.Steps.{Shows}
use Rattle.mailbox.proofs.Calling.{answered, not_network}
use Rattle.mailbox.proofs.mail.Mailbox.network.Goals as goal

pub returns-then-not-is_of_network-clause-err : goal.returns-then-not-is_of_network-clause-err
returns-then-not-is_of_network-clause-err c = λ m shows. not_network c.args.self.now m c.args.event.now shows (sym c.is_of_network.ensures ∙ c.if-not-is_of_network.true)

pub returns-clause-ok : goal.returns-clause-ok
returns-clause-ok c = λ m shows.
    answered (record { world = c.self.inside.world; channels = c.self.inside.channels.items; owed = c.self.inside.owed.items }) m c.step.new.self (subst (λ (x : state.Mail). Shows x m) (sym c.self.view_is) shows) c.args.event.now c.in_ok-step.field-0 (sym c.is_of_network.ensures ∙ c.if-not-is_of_network.false) c.in_ok-step.ensures.ok
