-- Whether a receive may be posted.
use Rattle.std.proofs.Common.{◌≡◌, ℕ, zero, suc, ◌<◌, Bool, true, false, List, [], ◌∷◌, length, refl, ap, sym, ◌∙◌, subst}
use Rattle.std.specs.Prelude.{Option, Some, None, IfSome, IfNone, IsNone, is_some, not, slice_get}
use Rattle.std.specs.Bool.{then_some}
use Rattle.std.specs.Map.{values_of}
use Rattle.rdma_types.specs.Causes.{cause, first_cause}
use Rattle.rdma_types.specs.declared.answers.Refusal.{Refusal}
use Rattle.rdma_types.specs.declared.answers.Refusal.TheVariants.{CqFull}
use Rattle.rdma_types.specs.declared.names.Name.{Name}
use Rattle.rdma_types.specs.declared.requests.Receive.{Receive}
use Rattle.rdma_types.specs.Memory.{Right, is_granted, local_key}
use Rattle.page_pool.specs.Pool.{Pool}
use Rattle.end_queues.specs.Completions.{Queue, used_places}
use Rattle.memory_keys.specs.declared.RegisteredRegion.{RegisteredRegion}
use Rattle.memory_keys.specs.declared.RegionRange.{RegionRange}
use Rattle.memory_keys.specs.Regions.{granted_spot, regions_of}
use Rattle.memory_keys.proofs.Protocol.{place-refused}
use Rattle.responder.specs.Sound.{IsPlace}
use Rattle.std.specs.Map.{keys_of}
use Rattle.std.specs.Prelude.{bytes_eq, position}
use Rattle.rdma_types.specs.declared.answers.Refusal.TheVariants.{NoSuch}
use Rattle.protocol.specs.Refusals.{end_causes, has_end, is_full, recv_causes}
use Rattle.protocol.specs.State.{Context, End, end_at}
use Rattle.context_core.specs.Context.{Holding, IsContext, context_in, end_of, queue_name}
use Rattle.context_core.proofs.EndsByName.{end-found}
use Rattle.context_core.proofs.ReservedCompletions.{full-is}
use Rattle.context_core.specs.declared.state.EndSlot.{EndSlot}
use Rattle.context_core.specs.Queues.{TakesReceive, is_full_at}
use Rattle.context_core.proofs.FirstCause.{first-passed, last-cause}
use Rattle.context_core.proofs.CauseOrder.{after-three}

-- no place is granted, or one is
pub place-none : (held : List RegisteredRegion) (domain : Name) (key at count : ℕ) (right : Right) (o : Option RegionRange) → ((pool : Pool) → o ≡ granted_spot local_key (regions_of pool held) domain key at count right) → is_some o ≡ false → (pool : Pool) → not (is_granted local_key (regions_of pool held) domain key at count right) ≡ true
place-none held domain key at count right (Some s) g none pool = absurd (cc)
place-none held domain key at count right None g none pool = ap not ((place-refused local_key (regions_of pool held) domain key at count right).0 (subst IsNone (g pool) refl))

pub place-some : (held : List RegisteredRegion) (domain : Name) (key at count : ℕ) (right : Right) (o : Option RegionRange) → ((pool : Pool) → o ≡ granted_spot local_key (regions_of pool held) domain key at count right) → is_some o ≡ true → (pool : Pool) → is_granted local_key (regions_of pool held) domain key at count right ≡ true
place-some held domain key at count right None g some pool = absurd (cc)
place-some held domain key at count right (Some s) g some pool = by (is_granted local_key (regions_of pool held) domain key at count right) refl
  where
    by : (b : Bool) → is_granted local_key (regions_of pool held) domain key at count right ≡ b → is_granted local_key (regions_of pool held) domain key at count right ≡ true
    by true e = e
    by false e = absurd (let none : IsNone (granted_spot local_key (regions_of pool held) domain key at count right) = (place-refused local_key (regions_of pool held) domain key at count right).1 e in let here : Some s ≡ granted_spot local_key (regions_of pool held) domain key at count right = g pool in cc)

-- what is left to ask once the first three causes do not hold
pub last-of-four : (a b c d : Refusal) (p q r s : Bool) → p ≡ false → q ≡ false → r ≡ false → then_some s d ≡ first_cause (cause a p ∷ cause b q ∷ cause c r ∷ cause d s ∷ [])
last-of-four a b c d p q r s e f g = last-cause d s ∙ sym (after-three a b c p q r (cause d s ∷ []) e f g)

pub takes-none : (regions : List RegisteredRegion) (queues : List (Name × Queue)) (v : EndSlot) (r : Receive) (q : Queue) (full : Bool)
    → IsPlace regions v.endpoint.domain r → length v.endpoint.recvs.items < v.endpoint.recv_depth → slice_get (values_of queues) v.recv ≡ Some q → (full ≡ false → used_places q < q.capacity)
    → IfNone (then_some full CqFull) (TakesReceive regions queues v r)
takes-none regions queues v r q true place depth there room = tt
takes-none regions queues v r q false place depth there room = record { place = place; depth = depth; room = subst (λ o. IfSome o (λ x. used_places x < x.capacity)) (sym there) (room refl) }

pub value-at : {V : Type 0} (es : List (Name × V)) (i : ℕ) (n : Name) (v : V) → slice_get es i ≡ Some (n, v) → slice_get (values_of es) i ≡ Some v
value-at [] i n v s = absurd (cc)
value-at (x ∷ xs) zero n v s = let same : x ≡ (n, v) = cc in ap (λ y. Some y.1) same
value-at (x ∷ xs) (suc i) n v s = value-at xs i n v s

-- a receive at the end that was found is refused for the causes of the end
pub end-refused : (pool : Pool) (n : Name) (h : Holding) (name : Name) (i : ℕ) (e : Name × EndSlot) (r : Receive) (o : Option Refusal) → IsContext pool h → position (bytes_eq name) (keys_of h.ends) ≡ Some i → slice_get h.ends i ≡ Some e
    → ((p : Pool) (c : Context) (x : End) → c.regions ≡ regions_of p h.regions → x.domain ≡ e.1.endpoint.domain → x.recv_depth ≡ e.1.endpoint.recv_depth → x.unused ≡ e.1.endpoint.recvs.items
    → IfSome (slice_get (values_of h.queues) e.1.recv) (λ q. is_full c x.recv_cq ≡ is_full_at q) → o ≡ first_cause (recv_causes c x r))
    → o ≡ first_cause (end_causes (context_in pool n h) name (recv_causes (context_in pool n h) (end_at (context_in pool n h) name) r))
unfolding context_in
end-refused pool n h name i e r o is p there says =
    let found = end-found pool h.queues h.ends name i e is.is.end_names p there in
    let full : IfSome (slice_get (values_of h.queues) e.1.recv) (λ q. is_full (context_in pool n h) (queue_name h.queues e.1.recv) ≡ is_full_at q) = filled (slice_get (values_of h.queues) e.1.recv) refl in
    says pool (context_in pool n h) (end_of pool h.queues e) refl refl refl refl full
    ∙ (ap (λ x. first_cause (recv_causes (context_in pool n h) x r)) (sym found.end)
    ∙ sym (first-passed NoSuch (not (has_end (context_in pool n h) name)) _ (ap not found.has)))
  where
    filled : (q : Option Queue) → slice_get (values_of h.queues) e.1.recv ≡ q → IfSome q (λ x. is_full (context_in pool n h) (queue_name h.queues e.1.recv) ≡ is_full_at x)
    filled None s = tt
    filled (Some q) s = full-is pool n h e.1.recv q is s
