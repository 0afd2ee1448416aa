use Rattle.std.proofs.Common.{◌≡◌, sym, subst, true}
use Rattle.mailbox_rules.specs.State as state
use Rattle.mailbox_rules.specs.State.{is_sender}
use Rattle.mailbox_rules.specs.Working.{working}
use Rattle.mailbox.specs.Steps.{Shows}
use Rattle.mailbox.proofs.Giving.{gives_at_place, no_sender}
use Rattle.mailbox.proofs.mail.Mailbox.take.Goals as goal

pub returns-in_default-clause-err : goal.returns-in_default-clause-err
returns-in_default-clause-err c = λ m shows. no_sender c.work.new.self m c.args.from c.args.tag (c.in_ok-work.ensures.ok m shows) c.in_default.ensures.none

pub returns-clause-ok : goal.returns-clause-ok
returns-clause-ok c = λ m shows.
    gives_at_place (record { world = c.self.inside.world; channels = c.self.inside.channels.items; owed = c.self.inside.owed.items }) m c.in-Some.i c.args.from c.place_of.result c.args.tag c.index_mut.result.now c.take.new.self c.take.result
    c.in-Some.ensures.some.0 c.place_of.ensures (subst (λ (x : state.Mail). Shows x (working m)) (sym c.self.view_is) (c.in_ok-work.ensures.ok m shows))
    (subst (λ (x : state.Mail). is_sender x c.args.from ≡ true) (sym c.self.view_is) c.in-Some.ensures.some.1) c.index_mut.ensures.value c.take.ensures.channel c.take.ensures.letter
