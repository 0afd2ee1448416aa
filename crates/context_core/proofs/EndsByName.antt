-- A queue pair found by its name.
use Rattle.std.proofs.Common.{◌≡◌, ℕ, Bool, true, false, List, ◌∷◌, ◌++◌, refl, ap, sym, ◌∙◌, subst}
use Rattle.std.specs.Prelude.{Option, Some, None, IfSome, IsSome, is_none, is_some, option_map, map, position, slice_get, bytes_eq}
use Rattle.std.specs.List.{AllByRecursion, IsDistinct}
use Rattle.std.specs.Map.{keys_of, lookup}
use Rattle.rdma_types.specs.declared.names.Name.{Name}
use Rattle.rdma_types.specs.Lists.{has_name, named}
use Rattle.page_pool.specs.Pool.{Pool}
use Rattle.end_queues.specs.Completions.{Queue}
use Rattle.protocol.specs.State.{no_end}
use Rattle.protocol.specs.Refusals.{is_init}
use Rattle.endpoint_core.specs.declared.end.EndLink.{EndLink}
use Rattle.endpoint_core.specs.Ends.{link_in}
use Rattle.context_core.specs.declared.state.EndSlot.{EndSlot}
use Rattle.context_core.specs.Context.{end_of}
use Rattle.context_core.proofs.NamedLookups.{has-lookup, name-found}
use Rattle.context_core.proofs.SplitEntries.{front-differs, has-split, map-append, named-split, split-at}
use Rattle.context_core.proofs.EndSteps.{front-names}

-- the queue pair at the place of a name
pub record IsFound (pool : Pool) (queues : List (Name × Queue)) (es : List (Name × EndSlot)) (n : Name) (e : Name × EndSlot) : Type 0 where
  pub name : e.0 ≡ n
  pub has : has_name (λ x. x.name) n (map (end_of pool queues) es) ≡ true
  pub end : named (λ x. x.name) no_end n (map (end_of pool queues) es) ≡ end_of pool queues e

pub end-found : (pool : Pool) (queues : List (Name × Queue)) (es : List (Name × EndSlot)) (n : Name) (i : ℕ) (e : Name × EndSlot) → IsDistinct bytes_eq (keys_of es) → position (bytes_eq n) (keys_of es) ≡ Some i → slice_get es i ≡ Some e → IsFound pool queues es n e
end-found pool queues es n i e d p s =
    let name : e.0 ≡ n = name-found n es i e p s in
    let split = split-at es i e s in
    let shown : map (end_of pool queues) es ≡ map (end_of pool queues) split.front ++ end_of pool queues e ∷ map (end_of pool queues) split.back = ap (map (end_of pool queues)) split.whole ∙ map-append (end_of pool queues) split.front (e ∷ split.back) in
    let before : AllByRecursion (λ y. bytes_eq y e.0 ≡ false) (keys_of split.front) = front-differs (keys_of split.front) e.0 (keys_of split.back) (subst (IsDistinct bytes_eq) (ap keys_of split.whole ∙ map-append (λ x. x.0) split.front (e ∷ split.back)) d) in
    let names : AllByRecursion (λ y. bytes_eq y n ≡ false) (map (λ x. x.name) (map (end_of pool queues) split.front)) = subst (λ k. AllByRecursion (λ y. bytes_eq y k ≡ false) (map (λ x. x.name) (map (end_of pool queues) split.front))) name (front-names pool queues e.0 split.front before) in
    record {
      name = name;
      has = ap (has_name (λ x. x.name) n) shown ∙ has-split (λ x. x.name) n (end_of pool queues e) (map (end_of pool queues) split.front) (map (end_of pool queues) split.back) name;
      end = ap (named (λ x. x.name) no_end n) shown ∙ named-split (λ x. x.name) no_end n (end_of pool queues e) (map (end_of pool queues) split.front) (map (end_of pool queues) split.back) name names;
    }

pub end-absent : (pool : Pool) (queues : List (Name × Queue)) (es : List (Name × EndSlot)) (n : Name) → is_some (lookup (bytes_eq n) es) ≡ false → has_name (λ x. x.name) n (map (end_of pool queues) es) ≡ false
end-absent pool queues es n h = sym (has-lookup (λ x. x.name) (end_of pool queues) (λ e. refl) n es) ∙ h

-- an end in Init is not connected
pub init-is : (pool : Pool) (l : Option EndLink) → is_init (option_map (link_in pool) l) ≡ is_none l
init-is pool None = refl
init-is pool (Some l) = refl

pub some-shown : (pool : Pool) (l : Option EndLink) → IsSome l → IsSome (option_map (link_in pool) l)
some-shown pool None s = s
some-shown pool (Some l) s = refl

pub if-shown : (pool : Pool) (l : Option EndLink) (was : Bool) → IfSome l (λ k. was ≡ k.requester.numbers.rnr_wait) → IfSome (option_map (link_in pool) l) (λ k. was ≡ k.sender.rnr_wait)
if-shown pool None was h = h
if-shown pool (Some l) was h = h
