use Rattle.std.proofs.Common.{◌≡◌, sym, ap, ◌∙◌, ◌-◌, subst, slice_get, true, false}
use Rattle.mailbox_rules.specs.State as state
use Rattle.mailbox_rules.specs.State.{has_ended, or_fresh}
use Rattle.mailbox.specs.Steps.{Shows}
use Rattle.mailbox.proofs.Posting.{post_not, post_noted}
use Rattle.mailbox.proofs.mail.Mailbox.post.Goals as goal

pub returns-then-has_ended_at-clause-ok : goal.returns-then-has_ended_at-clause-ok
returns-then-has_ended_at-clause-ok c = λ m shows.
    let is : true ≡ has_ended c.args.side (or_fresh (slice_get c.args.self.now.channels (c.args.i - 1))) =
    sym c.if-has_ended_at.true ∙ (c.has_ended_at.ensures ∙ (ap (λ cs. has_ended c.args.side (or_fresh (slice_get cs (c.args.i - 1)))) c.as_slice.ensures.value
    ∙ ap (λ (x : state.Mail). has_ended c.args.side (or_fresh (slice_get x.channels (c.args.i - 1)))) c.self.view_is)) in
    post_not c.args.self.now m c.args.side c.args.i c.args.event shows is

pub returns-clause-ok : goal.returns-clause-ok
returns-clause-ok c = λ m shows.
    let before : state.Mail = record { world = c.self.inside.world; channels = c.self.inside.channels.items; owed = c.self.inside.owed.items } in
    let is : false ≡ has_ended c.args.side (or_fresh (slice_get before.channels (c.args.i - 1))) =
    sym c.if-has_ended_at.false ∙ (c.has_ended_at.ensures ∙ ap (λ cs. has_ended c.args.side (or_fresh (slice_get cs (c.args.i - 1)))) c.as_slice.ensures.value) in
    post_noted before m c.args.side c.args.i c.args.event (subst (λ (x : state.Mail). Shows x m) (sym c.self.view_is) shows) c.ask.new.world c.in_ok-answer.answer c.in_ok-answer.ensures.ok is c.note_posted.new.channels.items c.note_posted.ensures
