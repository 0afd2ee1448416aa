use Rattle.std.proofs.Common.{arith, ◌≡◌, ◌∙◌, sym, ap, refl, subst, Some}
use Rattle.rdma_types.specs.Limits.{most_keys}
use Rattle.protocol.specs.State.{Device}
use Rattle.std.specs.Prelude.{IfOk, IfSome, is_none, nat_eq, nat_le}
use Rattle.std.specs.Str.{bytes_eq}
use Rattle.std.specs.Map.{lookup}
use Rattle.protocol.specs.declared.events.Event.TheVariants as event
use Rattle.protocol.specs.DeviceStep.{keys_of, makes_region, with_context}
use Rattle.protocol.specs.Refusals.{has_context, region_causes}
use Rattle.context_core.specs.Context.{context_in}
use Rattle.device_core.specs.Done.{plain}
use Rattle.device_core.specs.Parts.{device_of}
use Rattle.device_core.proofs.Contexts.{found-there}
use Rattle.device_core.proofs.Dones.{missing-done}
use Rattle.device_core.proofs.Helds.{free-is, is-context}
use Rattle.device_core.proofs.Made.{counted-err, own-keys, region-made}
use Rattle.device_core.specs.Acting.{Turn}
use Rattle.device_core.proofs.Stepping.{Stepped, done-at, found-mut, stepped, unchanged-keys}
use Rattle.device_core.proofs.device.Device.make_region.Goals as goal

-- the region is made where its context lives, and then its keys are used
made_here : (c : goal.After-told) → let x = c.self.inside in let es' = (c.get_mut.follows.lender c.make_region-made.new.self).entries in
    Stepped (device_of x.id x.address x.qp_count x.key_count x.pool x.contexts.entries x.husks.entries) (event.MakeRegion c.args.o.now c.args.domain c.args.base c.args.length c.args.rights) c.make_region-made.new.pool es' (λ k. lookup (nat_eq k) x.index.entries) (device_of x.id x.address x.qp_count c.counted-self-inside.result c.make_region-made.new.pool es' x.husks.entries) c.told.result
made_here c =
    let x = c.self.inside in
    let n = c.args.o.now.context in
    let s = c.unwrap-state.result.now in
    let s' = c.make_region-made.new.self in
    let e = c.make_region-made.ensures in
    let d = device_of x.id x.address x.qp_count x.key_count x.pool x.contexts.entries x.husks.entries in
    let found : lookup (bytes_eq n) x.contexts.entries ≡ Some s = found-mut c.get_mut.result c.unwrap-state.result (lookup (bytes_eq n) x.contexts.entries) c.unwrap-state.ensures c.get_mut.ensures.value in
    let free = free-is x.id x.address x.qp_count x.key_count x.pool x.contexts.entries x.husks.entries _ c.self.invariant in
    let all : is_none c.next_keys-keys.result ≡ nat_le most_keys x.key_count = c.next_keys-keys.ensures.all ∙ ap (λ (v : Device). nat_le most_keys v.key_count) (sym c.self.view_is) in
    let next : IfSome c.next_keys-keys.result (λ k. k ≡ keys_of d) = subst (λ (v : Device). IfSome c.next_keys-keys.result (λ k. k ≡ keys_of v)) (sym c.self.view_is) c.next_keys-keys.ensures.next in
    let refused = e.refused n d free (sym all) in
    let pool' = c.make_region-made.new.pool in
    let turn : Turn x.pool pool' n s s' = record { moves = e.moves; is = e.is; numbers = e.numbers n } in
    stepped x.id x.address x.qp_count x.key_count x.pool x.contexts.entries x.husks.entries _ c.self.invariant n s found pool' s' turn (c.get_mut.follows.lender s').entries (c.get_mut.follows.holds s').0 x.qp_count c.counted-self-inside.result (omega arith)
    (event.MakeRegion c.args.o.now c.args.domain c.args.base c.args.length c.args.rights) (λ k. region_causes d k c.args.o.now.name c.args.domain c.args.length) refl (λ k. makes_region d k c.args.o.now.name c.args.domain c.args.base c.args.length c.args.rights) refl (λ y. plain _) c.told.result
    c.make_region-made.result c.told.ensures refused
    (subst (λ a. IfOk c.make_region-made.result (λ y. makes_region d (context_in x.pool n s) c.args.o.now.name c.args.domain c.args.base c.args.length c.args.rights ≡ record { device = with_context (record d { key_count = c.counted-self-inside.result }) (context_in pool' n s'); outcome = plain a })) (sym c.told_keys.ensures)
    (region-made d (context_in x.pool n s) (context_in pool' n s') c.args.o.now.name c.args.domain c.args.base c.args.length c.args.rights c.next_keys-keys.result c.make_region-made.result c.counted-self-inside.result refused all next c.counted-self-inside.ensures (e.made n d)))
    (unchanged-keys c.make_region-made.result x.pool pool' s s' x.qp_count x.key_count c.counted-self-inside.result e.err e.err_pool (counted-err c.make_region-made.result x.key_count c.counted-self-inside.result c.counted-self-inside.ensures))

pub invariant_of-self : goal.invariant_of-self
invariant_of-self c = (made_here c).held c.requires c.as_bytes-spelled.ensures.spelled

pub returns : goal.returns
returns c = done-at c.self.view_is (made_here c)

pub missing-requires : goal.missing-requires
missing-requires c = ap (λ k. has_context k c.args.o.now.context) (sym c.self.view_is) ∙ (sym (found-there c.self.inside.pool c.args.o.now.context c.self.inside.contexts.entries) ∙ (sym c.contains_key.ensures ∙ c.if-not-contains_key.true))

pub returns-then-not-contains_key : goal.returns-then-not-contains_key
returns-then-not-contains_key c = missing-done c.args.self.now (event.MakeRegion c.args.o.now c.args.domain c.args.base c.args.length c.args.rights) c.args.o.now.context (λ k. region_causes c.args.self.now k c.args.o.now.name c.args.domain c.args.length) c.missing.result refl (c.missing.ensures (λ k. region_causes c.args.self.now k c.args.o.now.name c.args.domain c.args.length))

pub make_region-made-requires-clause-is : goal.make_region-made-requires-clause-is
make_region-made-requires-clause-is c = is-context c.self.inside.id c.self.inside.address c.self.inside.qp_count c.self.inside.key_count c.self.inside.pool c.self.inside.contexts.entries c.self.inside.husks.entries _ c.self.invariant c.args.o.now.context c.unwrap-state.result.now (found-mut c.get_mut.result c.unwrap-state.result (lookup (bytes_eq c.args.o.now.context) c.self.inside.contexts.entries) c.unwrap-state.ensures c.get_mut.ensures.value)

pub make_region-made-requires-clause-own : goal.make_region-made-requires-clause-own
make_region-made-requires-clause-own c m =
    let x = c.self.inside in
    let n = c.args.o.now.context in
    let s = c.unwrap-state.result.now in
    let found : lookup (bytes_eq n) x.contexts.entries ≡ Some s = found-mut c.get_mut.result c.unwrap-state.result (lookup (bytes_eq n) x.contexts.entries) c.unwrap-state.ensures c.get_mut.ensures.value in
    let all : is_none c.next_keys-keys.result ≡ nat_le most_keys x.key_count = c.next_keys-keys.ensures.all ∙ ap (λ (v : Device). nat_le most_keys v.key_count) (sym c.self.view_is) in
    let next : IfSome c.next_keys-keys.result (λ k. k ≡ keys_of (device_of x.id x.address x.qp_count x.key_count x.pool x.contexts.entries x.husks.entries)) = subst (λ (v : Device). IfSome c.next_keys-keys.result (λ k. k ≡ keys_of v)) (sym c.self.view_is) c.next_keys-keys.ensures.next in
    own-keys x.id x.address x.qp_count x.key_count x.pool x.contexts.entries x.husks.entries _ c.self.invariant n s found m c.next_keys-keys.result all next
