use Rattle.std.proofs.Common.{sym, ap, ◌∙◌, subst, arith}
use Rattle.mailbox_rules.specs.Letters.{header_of}
use Rattle.mailbox_rules.specs.State as state
use Rattle.mailbox_rules.specs.Working.{fetch_of}
use Rattle.mailbox_rules.specs.Opening.{receiver_region}
use Rattle.protocol.specs.declared.events.Event.TheVariants.{Load}
use Rattle.mailbox.specs.Steps.{IsLoaded, Shows}
use Rattle.mailbox.proofs.Landing.{copied_nowhere, copied_there}
use Rattle.mailbox.proofs.mail.Mailbox.copy_message.Goals as goal

pub returns-in_ok-fetch-clause-ok : goal.returns-in_ok-fetch-clause-ok
returns-in_ok-fetch-clause-ok c = λ m shows.
    copied_there (record { world = c.self.inside.world; channels = c.self.inside.channels.items; owed = c.self.inside.owed.items }) m c.args.i c.place_of-k.result c.copy_message.new.world (subst (λ (x : state.Mail). Shows x m) (sym c.self.view_is) shows) c.place_of-k.ensures
    c.args.place c.args.length c.index_mut.result.now c.copy_message.new.self c.in_ok-fetch.fetch c.index_mut.ensures.value (omega arith) c.in_ok-fetch.ensures.ok

pub returns-in_ok-message-clause-ok : goal.returns-in_ok-message-clause-ok
returns-in_ok-message-clause-ok c = λ m shows.
    copied_nowhere (record { world = c.self.inside.world; channels = c.self.inside.channels.items; owed = c.self.inside.owed.items }) m c.args.i c.place_of-k.result c.load.new.world (subst (λ (x : state.Mail). Shows x m) (sym c.self.view_is) shows) c.place_of-k.ensures
    c.args.place c.args.length c.in_ok-message.message _ (omega arith)
    (subst (λ a. IsLoaded c.self.inside.world c.load.new.world (Load (receiver_region c.args.i) a c.args.length) c.in_ok-message.message) c.place_address.ensures c.in_ok-message.ensures.ok)
    (c.fetch_of-fetch.ensures ∙ ap (λ h. fetch_of h) (c.header_of.ensures ∙ ap (λ bs. header_of bs) c.as_slice.ensures))
