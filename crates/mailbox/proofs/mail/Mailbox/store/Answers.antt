use Rattle.std.proofs.Common.{◌≡◌, sym, ap, ◌∙◌, subst}
use Rattle.protocol.specs.declared.events.Event.{Event}
use Rattle.protocol.specs.declared.events.Event.TheVariants as event
use Rattle.mailbox_rules.specs.Opening as opening
use Rattle.mailbox_rules.specs.State as state
use Rattle.mailbox.specs.Steps.{IsAsked, Shows}
use Rattle.mailbox.proofs.Posting.{asked_shown}
use Rattle.mailbox.proofs.mail.Mailbox.store.Goals as goal

pub returns-clause-ok : goal.returns-clause-ok
returns-clause-ok c = λ m shows.
    let is : event.Store c.sender_region.result c.args.at c.new.result ≡ event.Store (opening.sender_region c.args.i) c.args.at c.args.bytes.items =
    ap (λ r. event.Store r c.args.at c.new.result) c.sender_region.ensures ∙ ap (λ bs. event.Store (opening.sender_region c.args.i) c.args.at bs) c.new.ensures in
    let s : Shows (record { world = c.self.inside.world; channels = c.self.inside.channels.items; owed = c.self.inside.owed.items }) m = (subst (λ (x : state.Mail). Shows x m) (sym c.self.view_is) shows) in
    asked_shown m (event.Store (opening.sender_region c.args.i) c.args.at c.args.bytes.items) c.in_ok-ask.field-0 c.self.inside.world c.ask.new.world
    (subst (λ (e : Event). IsAsked c.self.inside.world c.ask.new.world e c.in_ok-ask.field-0) is c.in_ok-ask.ensures.ok m.world s.world)
    (record { world = c.self.inside.world; channels = c.self.inside.channels.items; owed = c.self.inside.owed.items }) s
