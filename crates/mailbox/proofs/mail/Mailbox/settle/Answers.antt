-- The world settles.
use Rattle.std.proofs.Common.{sym, subst}
use Rattle.std.proofs.lemmas.Result.{IfOk-weaker, on_err_weaker}
use Rattle.mailbox_rules.specs.State as state
use Rattle.mailbox.specs.Steps.{Shows}
use Rattle.mailbox.proofs.Calling.{settles_to, settling_cut}
use Rattle.mailbox.proofs.mail.Mailbox.settle.Goals as goal

pub returns-clause-ok : goal.returns-clause-ok
returns-clause-ok g c = IfOk-weaker c.settle.result _ _ (λ q is m shows.
    settles_to (record { world = c.self.inside.world; channels = c.self.inside.channels.items; owed = c.self.inside.owed.items }) m c.settle.new.world
    (subst (λ (x : state.Mail). Shows x m) (sym c.self.view_is) shows) q is) c.settle.ensures.settled

pub returns-clause-cut : goal.returns-clause-cut
returns-clause-cut g c = on_err_weaker c.settle.result (λ left m shows.
    settling_cut (record { world = c.self.inside.world; channels = c.self.inside.channels.items; owed = c.self.inside.owed.items }) m c.settle.new.world
    (subst (λ (x : state.Mail). Shows x m) (sym c.self.view_is) shows) left) c.settle.ensures.left
