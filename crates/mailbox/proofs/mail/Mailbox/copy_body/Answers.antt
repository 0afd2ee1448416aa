use Rattle.std.proofs.Common.{sym, subst, arith}
use Rattle.mailbox_rules.specs.State as state
use Rattle.mailbox_rules.specs.Opening.{receiver_region}
use Rattle.protocol.specs.declared.events.Event.TheVariants.{Load}
use Rattle.mailbox.specs.Steps.{IsLoaded, Shows}
use Rattle.mailbox.proofs.Landing.{filled_nowhere, filled_there}
use Rattle.mailbox.proofs.mail.Mailbox.copy_body.Goals as goal

pub returns-in_ok-copy_body-clause-ok : goal.returns-in_ok-copy_body-clause-ok
returns-in_ok-copy_body-clause-ok c = λ m shows.
    filled_there (record { world = c.self.inside.world; channels = c.self.inside.channels.items; owed = c.self.inside.owed.items }) m c.args.i c.place_of-k.result c.copy_body.new.world (subst (λ (x : state.Mail). Shows x m) (sym c.self.view_is) shows) c.place_of-k.ensures
    c.args.length c.index_mut.result.now c.copy_body.new.self c.index_mut.ensures.value (omega arith) c.in_ok-copy_body.ensures.ok

pub returns-in_ok-load-clause-ok : goal.returns-in_ok-load-clause-ok
returns-in_ok-load-clause-ok c = λ m shows.
    filled_nowhere (record { world = c.self.inside.world; channels = c.self.inside.channels.items; owed = c.self.inside.owed.items }) m c.args.i c.place_of-k.result c.load.new.world (subst (λ (x : state.Mail). Shows x m) (sym c.self.view_is) shows) c.place_of-k.ensures
    c.args.length c.in_ok-load.field-0 (omega arith)
    (subst (λ a. IsLoaded c.self.inside.world c.load.new.world (Load (receiver_region c.args.i) a c.args.length) c.in_ok-load.field-0) c.landing_address.ensures c.in_ok-load.ensures.ok)
