-- A connected end at a place.
use Rattle.std.proofs.Common.{◌≡◌, ℕ, Bool, true, false, zero, suc, ◌<◌, List, [], ◌∷◌, length, refl, ap, sym, ◌∙◌, subst, arith}
use Rattle.std.specs.Prelude.{Option, Some, None, IfNone, IfOk, IfSome, IsSome, Result, bytes_eq, if◌then◌else◌, is_none, is_some, not, option_map, position, slice_get, Ok, Err}
use Rattle.std.specs.List.{IsDistinct}
use Rattle.std.specs.Map.{keys_of, lookup}
use Rattle.std.specs.Result.{result_err, result_ok}
use Rattle.std.proofs.lemmas.Option.{slice_get-map, slice_get_within}
use Rattle.rdma_types.specs.declared.answers.Refusal.{Refusal}
use Rattle.rdma_types.specs.declared.answers.Refusal.TheVariants.{NoSuch, BadState}
use Rattle.rdma_types.specs.declared.names.Name.{Name}
use Rattle.rdma_types.specs.Causes.{cause, first_cause}
use Rattle.page_pool.specs.Pool.{Pool}
use Rattle.protocol.specs.Refusals.{connected_causes, has_end, is_init}
use Rattle.protocol.specs.State.{End, end_at}
use Rattle.endpoint_core.specs.declared.end.EndLink.{EndLink}
use Rattle.endpoint_core.specs.Ends.{link_in}
use Rattle.context_core.specs.declared.state.EndSlot.{EndSlot}
use Rattle.context_core.specs.Context.{Holding, context_in, end_of}
use Rattle.context_core.specs.Links.{IsConnectedAt}
use Rattle.context_core.proofs.EndReaders.{end-shown}
use Rattle.context_core.proofs.EndsByName.{end-found, init-is, some-shown}
use Rattle.context_core.proofs.FirstCause.{first-passed, none-holds}
use Rattle.context_core.proofs.NamedLookups.{has-lookup, name-found}
use Rattle.context_core.proofs.SplitEntries.{position-here}

-- the end of a name that a context holds at a place is connected
pub record IsHeldAt (h : Holding) (name : Name) (i : ℕ) : Type 0 where
  pub slot : EndSlot
  pub there : slice_get h.ends i ≡ Some (name, slot)
  pub linked : IsSome slot.endpoint.link

held-found : (h : Holding) (name : Name) (i : ℕ) → position (bytes_eq name) (keys_of h.ends) ≡ Some i → i < length h.ends → IfSome (slice_get h.ends i) (λ e. IsSome e.1.endpoint.link) → IsHeldAt h name i
held-found h name i at inside linked = by (slice_get h.ends i) refl linked
  where
    by : (o : Option (Name × EndSlot)) → slice_get h.ends i ≡ o → IfSome o (λ e. IsSome e.1.endpoint.link) → IsHeldAt h name i
    by None is l = absurd (past h.ends i inside is)
      where
        past : (es : List (Name × EndSlot)) (k : ℕ) → k < length es → slice_get es k ≡ None → ⊥
        past [] k l e = omega (arith, l)
        past (x ∷ xs) zero l e = let odd : Some x ≡ None = e in absurd (cc)
        past (x ∷ xs) (suc k) l e = past xs k (omega arith) e
    by (Some e) is l = record { slot = e.1; there = is ∙ ap (λ (n : Name). Some (n, e.1)) (name-found name h.ends i e at is); linked = l }

-- an end that was found by its name is there
pub connected-at : (pool : Pool) (n : Name) (h : Holding) (name : Name) (i : ℕ) → position (bytes_eq name) (keys_of h.ends) ≡ Some i → i < length h.ends → IfSome (slice_get h.ends i) (λ e. IsSome e.1.endpoint.link) → IsConnectedAt (context_in pool n h) name i
connected-at pool n h name i at inside linked =
    let held = held-found h name i at inside linked in
    record {
      end = end_of pool h.queues (name, held.slot);
      there = end-shown pool n h i ∙ ap (option_map (end_of pool h.queues)) held.there;
      named = refl;
      linked = some-shown pool held.slot.endpoint.link held.linked;
    }

pub connected-places : (pool : Pool) (n : Name) (h : Holding) (name : Name) (r : Result ℕ Refusal) → IfOk r (λ i. position (bytes_eq name) (keys_of h.ends) ≡ Some i) → IfOk r (λ i. i < length h.ends) → IfOk r (λ i. IfSome (slice_get h.ends i) (λ e. IsSome e.1.endpoint.link))
    → IfSome (result_ok r) (λ i. IsConnectedAt (context_in pool n h) name i)
connected-places pool n h name (Ok i) at inside linked = connected-at pool n h name i at inside linked
connected-places pool n h name (Err e) at inside linked = tt

-- .. and the other way
pub held-at : (pool : Pool) (n : Name) (h : Holding) (name : Name) (i : ℕ) → IsConnectedAt (context_in pool n h) name i → IsHeldAt h name i
held-at pool n h name i is = by (slice_get h.ends i) refl
  where
    linked : (o : Option EndLink) → IsSome (option_map (link_in pool) o) → IsSome o
    linked None s = s
    linked (Some l) s = refl

    by : (o : Option (Name × EndSlot)) → slice_get h.ends i ≡ o → IsHeldAt h name i
    by None e =
        let odd : None ≡ Some is.end = sym (end-shown pool n h i ∙ ap (option_map (end_of pool h.queues)) e) ∙ is.there in
        absurd (cc)
    by (Some e) there =
        let both : Some (end_of pool h.queues e) ≡ Some is.end = sym (end-shown pool n h i ∙ ap (option_map (end_of pool h.queues)) there) ∙ is.there in
        let same : end_of pool h.queues e ≡ is.end = cc in
        let named : e.0 ≡ name = ap (λ (x : End). x.name) same ∙ is.named in
        record {
          slot = e.1;
          there = there ∙ ap (λ (m : Name). Some (m, e.1)) named;
          linked = linked e.1.endpoint.link (subst (λ (x : End). IsSome x.link) (sym same) is.linked);
        }

pub held-within : (h : Holding) (name : Name) (i : ℕ) → IsHeldAt h name i → i < length h.ends
held-within h name i is = slice_get_within h.ends i (name, is.slot) is.there

pub held-linked : (h : Holding) (name : Name) (i : ℕ) → IsHeldAt h name i → IfSome (slice_get h.ends i) (λ e. IsSome e.1.endpoint.link)
held-linked h name i is = subst (λ (o : Option (Name × EndSlot)). IfSome o (λ e. IsSome e.1.endpoint.link)) (sym is.there) is.linked

pub held-position : (h : Holding) (name : Name) (i : ℕ) → IsDistinct bytes_eq (keys_of h.ends) → IsHeldAt h name i → position (bytes_eq name) (keys_of h.ends) ≡ Some i
held-position h name i apart is = position-here (keys_of h.ends) i name apart (slice_get-map (λ e. e.0) h.ends i ∙ ap (option_map (λ e. e.0)) is.there)

-- where no end was found, its transmission is refused
pub refused-none : (r : Result ℕ Refusal) (o : Option Refusal) (found : Option ℕ) → found ≡ result_ok r → result_err r ≡ o → IfNone found (IsSome o)
refused-none r o found is err = subst (λ x. IfNone x (IsSome o)) (sym is) (subst (λ y. IfNone (result_ok r) (IsSome y)) err (by r))
  where
    by : (x : Result ℕ Refusal) → IfNone (result_ok x) (IsSome (result_err x))
    by (Ok i) = tt
    by (Err e) = refl

-- .. and where it is connected, none is
pub not-refused : (pool : Pool) (n : Name) (h : Holding) (name : Name) (i : ℕ) → IsDistinct bytes_eq (keys_of h.ends) → IsHeldAt h name i → first_cause (connected_causes (context_in pool n h) name) ≡ None
unfolding context_in
not-refused pool n h name i apart is =
    let found = end-found pool h.queues h.ends name i (name, is.slot) apart (held-position h name i apart is) is.there in
    let init : is_init (end_at (context_in pool n h) name).link ≡ false = ap (λ (x : End). is_init x.link) found.end ∙ (init-is pool is.slot.endpoint.link ∙ some (is.slot.endpoint.link) is.linked) in
    first-passed NoSuch (not (has_end (context_in pool n h) name)) _ (ap not found.has) ∙ (first-passed BadState (is_init (end_at (context_in pool n h) name).link) [] init ∙ none-holds)
  where
    some : (o : Option EndLink) → IsSome o → is_none o ≡ false
    some None s = absurd (cc)
    some (Some l) s = refl

-- why its transmission is refused, where it is
pub refused-as : (pool : Pool) (n : Name) (h : Holding) (name : Name) (there : Bool) → there ≡ is_some (lookup (bytes_eq name) h.ends) → IsSome (first_cause (connected_causes (context_in pool n h) name)) → first_cause (connected_causes (context_in pool n h) name) ≡ Some (if there then BadState else NoSuch)
unfolding context_in first_cause
refused-as pool n h name there is some =
    let named : there ≡ has_end (context_in pool n h) name = is ∙ has-lookup (λ x. x.name) (end_of pool h.queues) (λ e. refl) name h.ends in
    subst (λ a. first_cause (connected_causes (context_in pool n h) name) ≡ Some (if a then BadState else NoSuch)) (sym named) (two (has_end (context_in pool n h) name) (is_init (end_at (context_in pool n h) name).link) some)
  where
    two : (a b : Bool) → IsSome (first_cause (cause NoSuch (not a) ∷ cause BadState b ∷ [])) → first_cause (cause NoSuch (not a) ∷ cause BadState b ∷ []) ≡ Some (if a then BadState else NoSuch)
    two true true s = refl
    two true false s = absurd (cc)
    two false b s = refl
