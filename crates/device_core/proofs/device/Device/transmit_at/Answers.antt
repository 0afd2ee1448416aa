-- The context at the place makes its step.
use Rattle.std.proofs.Common.{refl, sym, subst}
use Rattle.std.specs.Prelude.{nat_eq}
use Rattle.std.specs.Map.{lookup}
use Rattle.indexmap.specs.IndexMap.{set_value_at}
use Rattle.rdma_types.specs.declared.names.ObjName.{ObjName}
use Rattle.protocol.specs.declared.events.Event.TheVariants as event
use Rattle.protocol.specs.State.{Device}
use Rattle.device_core.specs.Acting.{Turn}
use Rattle.device_core.specs.Done.{sending, told_by}
use Rattle.device_core.specs.Finding.{IsAt}
use Rattle.device_core.specs.Parts.{device_of}
use Rattle.device_core.proofs.Acting.{plain-turn}
use Rattle.device_core.proofs.EndPlaces.{inside, named-at}
use Rattle.device_core.proofs.Helds.{is-context}
use Rattle.device_core.proofs.Stepping.{Stepped}
use Rattle.device_core.proofs.Transmissions.{answered_as, told-at, transmitted-at}
use Rattle.device_core.proofs.device.Device.transmit_at.Goals as goal

pub index_mut-state-requires : goal.index_mut-state-requires
index_mut-state-requires c = inside c.self.invariant refl (subst (λ (d : Device). IsAt d c.requires.0 c.args.at) (sym c.self.view_is) c.requires.1)

pub transmit_at-requires-clause-is : goal.transmit_at-requires-clause-is
transmit_at-requires-clause-is c =
    let x = c.self.inside in
    let here = named-at c.self.invariant refl (subst (λ (d : Device). IsAt d c.requires.0 c.args.at) (sym c.self.view_is) c.requires.1) c.index_mut-state.ensures.value in
    is-context x.id x.address x.qp_count x.key_count x.pool x.contexts.entries x.husks.entries _ c.self.invariant c.requires.0.context c.index_mut-state.result.now here.found

pub transmit_at-requires-clause-at : goal.transmit_at-requires-clause-at
transmit_at-requires-clause-at c =
    let here = named-at c.self.invariant refl (subst (λ (d : Device). IsAt d c.requires.0 c.args.at) (sym c.self.view_is) c.requires.1) c.index_mut-state.ensures.value in
    (c.requires.0.context, c.requires.0.name, here.there)

-- the end sends its next packet, where it may
sent_here : (c : goal.After-self-1) (o : ObjName) → IsAt c.args.self.now o c.args.at → let x = c.self.inside in let es' = set_value_at x.contexts.entries c.args.at.context c.transmit_at.new.self in
    Stepped (device_of x.id x.address x.qp_count x.key_count x.pool x.contexts.entries x.husks.entries) (event.Transmit o) x.pool es' (λ k. lookup (nat_eq k) x.index.entries) (device_of x.id x.address x.qp_count x.key_count x.pool es' x.husks.entries) (told_by sending (answered_as c.transmit_at.new.draft c.transmit_at.result))
sent_here c o at =
    let x = c.self.inside in
    let s = c.index_mut-state.result.now in
    let s' = c.transmit_at.new.self in
    let e = c.transmit_at.ensures in
    let here = named-at c.self.invariant refl (subst (λ (d : Device). IsAt d o c.args.at) (sym c.self.view_is) at) c.index_mut-state.ensures.value in
    let turn : Turn x.pool x.pool o.context s s' = plain-turn x.pool o.context s s' e.lists e.pages e.is (e.numbers o.context) in
    transmitted-at x.id x.address x.qp_count x.key_count x.pool x.contexts.entries x.husks.entries _ c.self.invariant o c.args.at.place s here.found here.there s' turn _ (here.stored s')
    c.transmit_at.result c.transmit_at.new.draft (λ d same lives. e.sent o.context o.name d here.there same lives) e.err

pub invariant_of-self : goal.invariant_of-self
invariant_of-self c = (sent_here c c.requires.0 c.requires.1).held tt tt

pub returns : goal.returns
returns c =
    let told = told-at c.self.view_is (sent_here c c.requires.0 c.requires.1) in
    record {
      ok = λ o at. (told-at c.self.view_is (sent_here c o at)).ok;
      bounded = c.transmit_at.ensures.bounded;
      id = told.id;
      address = told.address;
      err = told.err;
      err_draft = c.transmit_at.ensures.err_draft;
    }
