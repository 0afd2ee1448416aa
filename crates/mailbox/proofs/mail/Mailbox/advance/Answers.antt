use Rattle.std.proofs.Common.{sym, subst}
use Rattle.std.proofs.lemmas.Result.{IfOk-weaker}
use Rattle.mailbox_rules.specs.State as state
use Rattle.mailbox.specs.Steps.{Shows}
use Rattle.mailbox.proofs.Advancing.{frees_slot, posts_at_sender, posts_free, posts_read, reposts}
use Rattle.mailbox.proofs.mail.Mailbox.advance.Goals as goal

pub returns-in-Repost-clause-ok : goal.returns-in-Repost-clause-ok
returns-in-Repost-clause-ok c = IfOk-weaker c.post_then.result _ _ (λ next h.
    reposts c.args.self.now c.post_then.new.self next c.args.due c.in-Repost.i c.in-Repost.place c.in-Repost.fetch c.receiver_receives.result c.read_due-next.result c.in-Repost.is c.receiver_receives.ensures.event c.read_due-next.ensures h) c.post_then.ensures.ok

pub returns-in-PostRead-clause-ok : goal.returns-in-PostRead-clause-ok
returns-in-PostRead-clause-ok c = IfOk-weaker c.post_then-in-PostRead.result _ _ (λ next h.
    posts_read c.args.self.now c.post_then-in-PostRead.new.self next c.args.due c.in-PostRead.i c.in-PostRead.fetch c.reads.result c.in-PostRead.is c.reads.ensures.event h) c.post_then-in-PostRead.ensures.ok

pub returns-in-PostFree-clause-ok : goal.returns-in-PostFree-clause-ok
returns-in-PostFree-clause-ok c = IfOk-weaker c.post_then-in-PostFree.result _ _ (λ next h.
    posts_free c.args.self.now c.post_then-in-PostFree.new.self next c.args.due c.in-PostFree.i c.frees.result c.in-PostFree.is c.frees.ensures.event h) c.post_then-in-PostFree.ensures.ok

pub returns-in-FreeSlot-clause-ok : goal.returns-in-FreeSlot-clause-ok
returns-in-FreeSlot-clause-ok c = λ m shows.
    frees_slot (record { world = c.self.inside.world; channels = c.self.inside.channels.items; owed = c.self.inside.owed.items }) m c.in-FreeSlot.i c.in-FreeSlot.place c.args.due c.free_at.new.channels.items c.in-FreeSlot.is
    (subst (λ (x : state.Mail). Shows x m) (sym c.self.view_is) shows) c.free_at.ensures

pub returns-in-RepostAtSender-clause-ok : goal.returns-in-RepostAtSender-clause-ok
returns-in-RepostAtSender-clause-ok c = IfOk-weaker c.post_then-in-RepostAtSender.result _ _ (λ next h.
    posts_at_sender c.args.self.now c.post_then-in-RepostAtSender.new.self next c.args.due c.in-RepostAtSender.i c.in-RepostAtSender.place c.sender_receives-event.result c.in-RepostAtSender.is c.sender_receives-event.ensures.event h) c.post_then-in-RepostAtSender.ensures.ok
