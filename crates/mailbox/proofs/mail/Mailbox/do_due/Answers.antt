use Rattle.std.proofs.Common.{sym, subst}
use Rattle.mailbox_rules.specs.State as state
use Rattle.mailbox.specs.Steps.{Advances, advanced}
use Rattle.mailbox.proofs.Advancing.{done_shown}
use Rattle.mailbox.proofs.mail.Mailbox.do_due.Goals as goal

pub returns-clause-ok : goal.returns-clause-ok
returns-clause-ok c = λ m shows.
    done_shown (record { world = c.self.inside.world; channels = c.self.inside.channels.items; owed = c.self.inside.owed.items }) m c.args.due c.args.k c.in_ok-next.next c.replace_due.new.owed.items
    (subst (λ (x : state.Mail). Advances x c.in_ok-next.next (advanced m c.args.due)) (sym c.self.view_is) (c.in_ok-next.ensures.ok m shows)) c.replace_due.ensures
