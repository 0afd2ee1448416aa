-- The context of the end makes its step, or lives elsewhere.
use Rattle.std.proofs.Common.{◌≡◌, ap, refl, Some}
use Rattle.std.specs.Prelude.{Err, Ok, nat_eq}
use Rattle.std.specs.Str.{bytes_eq}
use Rattle.std.specs.Map.{lookup}
use Rattle.protocol.specs.declared.events.Event.TheVariants as event
use Rattle.protocol.specs.Refusals.{connected_causes}
use Rattle.context_core.specs.declared.ContextFault.TheVariants.{Refused}
use Rattle.device_core.specs.Acting.{Turn}
use Rattle.device_core.specs.Done.{sending, told_by}
use Rattle.device_core.specs.Parts.{device_of}
use Rattle.device_core.proofs.Acting.{plain-turn}
use Rattle.device_core.proofs.Helds.{is-context}
use Rattle.device_core.proofs.Lookups.{gone-kept, held-kept, missing-kept, none-mut, same-kept}
use Rattle.device_core.proofs.Steps.{told-transmitted}
use Rattle.device_core.proofs.Stepping.{Stepped, done-at, found-mut}
use Rattle.device_core.proofs.Transmissions.{transmitted}
use Rattle.device_core.proofs.device.Device.transmit.Goals as goal

pub invariant_of-self : goal.invariant_of-self
invariant_of-self c = held-kept c.self.inside.id c.self.inside.address c.self.inside.qp_count c.self.inside.key_count c.self.inside.pool c.self.inside.contexts.entries c.get_mut.follows.lender-at-none.entries c.self.inside.husks.entries _ (λ i. (c.get_mut.follows.holds-at-none i).entries) c.self.invariant

pub missing-requires : goal.missing-requires
missing-requires c = gone-kept c.self.inside.id c.self.inside.address c.self.inside.qp_count c.self.inside.key_count c.self.inside.pool c.self.inside.contexts.entries c.get_mut.follows.lender-at-none.entries c.self.inside.husks.entries c.args.end.now.context (λ i. (c.get_mut.follows.holds-at-none i).entries) (none-mut c.get_mut.result (lookup (bytes_eq c.args.end.now.context) c.self.inside.contexts.entries) c.in_default.is c.get_mut.ensures.value)

pub returns-in_default : goal.returns-in_default
returns-in_default c =
    let x = c.self.inside in
    let o = c.args.end.now in
    let done = missing-kept c.args.self.now _ (event.Transmit o) o.context (λ k. connected_causes k o.name) c.missing.result refl (same-kept x.id x.address x.qp_count x.key_count x.pool x.contexts.entries c.get_mut.follows.lender-at-none.entries x.husks.entries (λ i. (c.get_mut.follows.holds-at-none i).entries) _ c.self.view_is) (c.missing.ensures (λ k. connected_causes k o.name)) in
    let told = told-transmitted c.args.self.now _ o (Err (Refused c.missing.result)) (Ok c.refused.result) (ap Ok c.refused.ensures) done in
    record { ok = told.ok; bounded = told.few; id = told.id; address = told.address; refused_first = told.refused_first; err = told.err }

pub transmit-sent-requires : goal.transmit-sent-requires
transmit-sent-requires c = record { is = is-context c.self.inside.id c.self.inside.address c.self.inside.qp_count c.self.inside.key_count c.self.inside.pool c.self.inside.contexts.entries c.self.inside.husks.entries _ c.self.invariant c.args.end.now.context c.in-Some.state.now (found-mut c.get_mut.result c.in-Some.state (lookup (bytes_eq c.args.end.now.context) c.self.inside.contexts.entries) c.in-Some.is c.get_mut.ensures.value) }

-- the end sends its next packet, where it may
sent_here : (c : goal.After-told_transmission) → let x = c.self.inside in let es' = (c.get_mut.follows.lender c.transmit-sent.new.self).entries in
    Stepped (device_of x.id x.address x.qp_count x.key_count x.pool x.contexts.entries x.husks.entries) (event.Transmit c.args.end.now) x.pool es' (λ k. lookup (nat_eq k) x.index.entries) (device_of x.id x.address x.qp_count x.key_count x.pool es' x.husks.entries) (told_by sending c.transmit-sent.result)
sent_here c =
    let x = c.self.inside in
    let o = c.args.end.now in
    let s = c.in-Some.state.now in
    let s' = c.transmit-sent.new.self in
    let e = c.transmit-sent.ensures in
    let found : lookup (bytes_eq o.context) x.contexts.entries ≡ Some s = found-mut c.get_mut.result c.in-Some.state (lookup (bytes_eq o.context) x.contexts.entries) c.in-Some.is c.get_mut.ensures.value in
    let turn : Turn x.pool x.pool o.context s s' = plain-turn x.pool o.context s s' e.lists e.pages e.is (e.numbers o.context) in
    transmitted x.id x.address x.qp_count x.key_count x.pool x.contexts.entries x.husks.entries _ c.self.invariant o s found s' turn (c.get_mut.follows.lender s').entries (c.get_mut.follows.holds s').0
    c.transmit-sent.result (e.refused o.context) (e.sent o.context) e.err

pub invariant_of-self-2 : goal.invariant_of-self-2
invariant_of-self-2 c = (sent_here c).held tt tt

pub returns : goal.returns
returns c =
    let told = told-transmitted c.args.self.now _ c.args.end.now c.transmit-sent.result c.told_transmission.result c.told_transmission.ensures (done-at c.self.view_is (sent_here c)) in
    record { ok = told.ok; bounded = told.few; id = told.id; address = told.address; refused_first = told.refused_first; err = told.err }
