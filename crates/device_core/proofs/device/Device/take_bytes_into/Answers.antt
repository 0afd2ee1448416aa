-- The end that was found takes the datagram; where none was, a husk may answer it.
use Rattle.std.proofs.Common.{◌∙◌, refl, sym, ap, subst, Some}
use Rattle.std.specs.Prelude.{nat_eq}
use Rattle.std.specs.Map.{lookup}
use Rattle.indexmap.specs.IndexMap.{set_value_at}
use Rattle.rdma_types.specs.declared.answers.ArrivalEffect.TheVariants as took
use Rattle.rdma_types.specs.declared.answers.DropReason.TheVariants as why
use Rattle.protocol.specs.declared.events.Event.TheVariants as event
use Rattle.protocol.specs.State.{Device}
use Rattle.roce_headers.specs.Packets.{packet}
use Rattle.device_core.specs.Acting.{Turn}
use Rattle.device_core.specs.Done.{arrived, told_arrival, told_memory, told_taken}
use Rattle.device_core.specs.Parts.{device_of}
use Rattle.device_core.specs.Readings.{DoNothing}
use Rattle.device_core.proofs.Arrivals.{arrived-into, arrives-nothing, found-unlinked, taken_with}
use Rattle.device_core.proofs.EndPlaces.{is-here, none-found, one-found, within}
use Rattle.device_core.proofs.Helds.{is-context}
use Rattle.device_core.proofs.Stepping.{Stepped, done-at}
use Rattle.device_core.proofs.Told.{ToldInto, ok-told, on-ok, told-into}
use Rattle.device_core.proofs.device.Device.take_bytes_into.Goals as goal

pub returns-in_default-clause-done : goal.returns-in_default-clause-done
returns-in_default-clause-done c =
    arrives-nothing c.args.self.now c.args.from c.args.bytes.now c.in_default.ensures.nothing
    ∙ ap (λ xs. record { device = c.args.self.now; outcome = arrived (took.Silent why.Malformed) xs }) (sym c.clear.ensures)

pub returns-in_default-found-clause-done : goal.returns-in_default-found-clause-done
returns-in_default-found-clause-done c = c.tell_absent.ensures.done c.args.bytes.now c.in-Ok.ensures.exact

pub tell_absent-requires-clause-absent : goal.tell_absent-requires-clause-absent
tell_absent-requires-clause-absent c = none-found c.in-Ok.ensures.spelled.dest c.requires c.in_default-found.is

pub index_mut-state-requires : goal.index_mut-state-requires
index_mut-state-requires c = within c.self.invariant refl (one-found c.self.view_is c.in-Ok.ensures.spelled.dest c.requires c.in-Some.is)

pub take_into-taken-requires-clause-is : goal.take_into-taken-requires-clause-is
take_into-taken-requires-clause-is c =
    let x = c.self.inside in
    let here = is-here c.self.invariant refl (one-found c.self.view_is c.in-Ok.ensures.spelled.dest c.requires c.in-Some.is) c.index_mut-state.ensures.value in
    is-context x.id x.address x.qp_count x.key_count x.pool x.contexts.entries x.husks.entries _ c.self.invariant here.name c.index_mut-state.result.now here.found

-- the end takes the datagram
taken_here : (c : goal.After-told_effect) → let x = c.self.inside in let es' = set_value_at x.contexts.entries c.in-Some.end.context c.take_into-taken.new.self in
    Stepped (device_of x.id x.address x.qp_count x.key_count x.pool x.contexts.entries x.husks.entries) (event.Arrive c.args.from c.args.bytes.now) c.take_into-taken.new.pool es' (λ k. lookup (nat_eq k) x.index.entries) (device_of x.id x.address x.qp_count x.key_count c.take_into-taken.new.pool es' x.husks.entries) (told_memory (told_arrival (told_taken (taken_with c.take_into-taken.new.draft c.take_into-taken.result))))
taken_here c =
    let x = c.self.inside in
    let s = c.index_mut-state.result.now in
    let s' = c.take_into-taken.new.self in
    let pool' = c.take_into-taken.new.pool in
    let e = c.take_into-taken.ensures in
    let here = is-here c.self.invariant refl (one-found c.self.view_is c.in-Ok.ensures.spelled.dest c.requires c.in-Some.is) c.index_mut-state.ensures.value in
    let turn : Turn x.pool pool' here.name s s' = record { moves = e.moves; is = e.is; numbers = e.numbers here.name } in
    arrived-into x.id x.address x.qp_count x.key_count x.pool x.contexts.entries x.husks.entries _ c.self.invariant here.name s here.found pool' s' turn _ (here.stored s')
    c.args.from c.args.bytes.now (packet c.in-Ok.d) c.in-Ok.ensures.exact c.in-Some.end.place here.end c.take_into-taken.new.draft c.take_into-taken.result
    (e.none here.name) (λ q l at some. e.took here.name q l at some) e.nothing e.nothing_pool e.err e.err_pool

pub invariant_of-self : goal.invariant_of-self
invariant_of-self c = (taken_here c).held tt tt

told_here : (c : goal.After-told_effect) → let x = c.self.inside in let es' = set_value_at x.contexts.entries c.in-Some.end.context c.take_into-taken.new.self in
    ToldInto c.args.self.now (device_of x.id x.address x.qp_count x.key_count c.take_into-taken.new.pool es' x.husks.entries) (event.Arrive c.args.from c.args.bytes.now) c.take_into-taken.new.draft c.told_effect.result
told_here c = told-into _ _ _ c.take_into-taken.new.draft c.take_into-taken.result c.told_effect.result c.told_effect.ensures c.take_into-taken.ensures.nothing_draft (done-at c.self.view_is (taken_here c))

pub returns-clause-done : goal.returns-clause-done
returns-clause-done c = (told_here c).ok

pub returns-clause-err : goal.returns-clause-err
returns-clause-err c = (told_here c).err

pub returns-clause-bounded : goal.returns-clause-bounded
returns-clause-bounded c = on-ok c.told_effect.result _ c.take_into-taken.ensures.bounded

pub returns-clause-never_out_of_memory : goal.returns-clause-never_out_of_memory
returns-clause-never_out_of_memory c nothing =
    let x = c.self.inside in
    let here = is-here c.self.invariant refl (one-found c.self.view_is c.in-Ok.ensures.spelled.dest c.requires c.in-Some.is) c.index_mut-state.ensures.value in
    let nobody : DoNothing (device_of x.id x.address x.qp_count x.key_count x.pool x.contexts.entries x.husks.entries) (Some (packet c.in-Ok.d)) = subst (λ (k : Device). DoNothing k (Some (packet c.in-Ok.d))) (sym c.self.view_is) (subst (DoNothing c.args.self.now) c.in-Ok.ensures.exact nothing) in
    ok-told c.take_into-taken.result c.told_effect.result c.told_effect.ensures (c.take_into-taken.ensures.never_out_of_memory here.name (found-unlinked x.id x.address x.qp_count x.key_count x.pool x.contexts.entries x.husks.entries _ c.self.invariant here.name c.index_mut-state.result.now here.found c.in-Some.end.place c.in-Ok.d.dest here.end nobody.0))
