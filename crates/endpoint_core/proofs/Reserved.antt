-- What the protocol reserves for an end, queue by queue.
use Rattle.std.proofs.Common.{◌≡◌, ℕ, zero, suc, ◌+◌, ◌<◌, Bool, true, false, List, [], ◌∷◌, length, refl, ap, sym, ◌∙◌, arith, subst}
use Rattle.std.specs.Prelude.{◌==◌, Option, Some, None, bytes_eq, option_map, position, slice_get}
use Rattle.std.specs.List.{AllByRecursion, IsDistinct}
use Rattle.std.specs.Map.{keys_of}
use Rattle.std.proofs.Math.ListN.{get_or}
use Rattle.std.proofs.lemmas.Bool.Decides.{nat_tests}
use Rattle.std.proofs.lemmas.List.Quantifiers.{position-Some}
use Rattle.rdma_types.specs.declared.names.Name.{Name}
use Rattle.rdma_types.proofs.Tables.{name_is, same_name}
use Rattle.page_pool.specs.Pool.{Pool}
use Rattle.end_queues.specs.Completions.{Queue}
use Rattle.end_queues.specs.declared.work_queues.posted.QueuedRequest.{QueuedRequest}
use Rattle.end_queues.specs.Untold.{untold_in}
use Rattle.protocol.specs.EndWords.{in_use}
use Rattle.protocol.specs.Memory.{untold_of}
use Rattle.protocol.specs.Refusals.{count_if, reserved_by}
use Rattle.endpoint_core.specs.declared.end.Endpoint.{Endpoint}
use Rattle.endpoint_core.specs.declared.end.EndLink.{EndLink}
use Rattle.endpoint_core.specs.Ends.{Names, end_in, link_in, untold_by, used_by}
use Rattle.endpoint_core.specs.Queues.{StandsAt, promised}

-- a key is not behind itself
apart-at : (ks : List Name) (i : ℕ) (k : Name) → AllByRecursion (λ y. bytes_eq k y ≡ false) ks → slice_get ks i ≡ Some k → ⊥
apart-at [] i k apart e = cc
apart-at (x ∷ xs) zero k apart e =
    let same : x ≡ k = cc in
    let no : bytes_eq k k ≡ false = subst (λ z. bytes_eq k z ≡ false) same apart.0 in
    let yes = same_name k in cc
apart-at (x ∷ xs) (suc i) k apart e = apart-at xs i k apart.1 e

-- two places of distinct keys have the same key only where they are one
same-key : (ks : List Name) (i j : ℕ) (a : Name) → IsDistinct bytes_eq ks → slice_get ks i ≡ Some a → slice_get ks j ≡ Some a → i ≡ j
unfolding IsDistinct
same-key [] i j a distinct x y = absurd (cc)
same-key (k ∷ ks) zero zero a distinct x y = refl
same-key (k ∷ ks) zero (suc j) a distinct x y = absurd (let same : k ≡ a = cc in apart-at ks j k distinct.0 (y ∙ ap (λ z. Some z) (sym same)))
same-key (k ∷ ks) (suc i) zero a distinct x y = absurd (let same : k ≡ a = cc in apart-at ks i k distinct.0 (x ∙ ap (λ z. Some z) (sym same)))
same-key (k ∷ ks) (suc i) (suc j) a distinct x y = ap suc (same-key ks i j a distinct.1 x y)

-- the name at the place where it stands
name-at : (ks : List Name) (name : Name) (i : ℕ) → position (bytes_eq name) ks ≡ Some i → slice_get ks i ≡ Some name
name-at ks name i at = let found = position-Some (bytes_eq name) ks i [] at in there ks i found.0 (name_is name (get_or ks i []) found.1)
  where
    there : (xs : List Name) (i : ℕ) → i < length xs → name ≡ get_or xs i [] → slice_get xs i ≡ Some name
    there [] i within is = absurd (omega arith)
    there (x ∷ xs) zero within is = ap (λ z. Some z) (sym is)
    there (x ∷ xs) (suc i) within is = there xs i (omega arith) is

-- a name is that at a place exactly where it stands there
eq-place : (ks : List Name) (here : ℕ) (own : Name) (place : ℕ) (name : Name) → IsDistinct bytes_eq ks → slice_get ks here ≡ Some own → slice_get ks place ≡ Some name → bytes_eq own name ≡ (here == place)
eq-place ks here own place name distinct at other = by_test (here == place) refl
  where
    by_test : (b : Bool) → (here == place) ≡ b → bytes_eq own name ≡ (here == place)
    by_test true e =
        let same : here ≡ place = grind (arith, nat_tests, e) in
        let found : Some own ≡ Some name = sym at ∙ (ap (slice_get ks) same ∙ other) in
        let is : own ≡ name = cc in ap (bytes_eq own) (sym is) ∙ (same_name own ∙ sym e)
    by_test false e = by_name (bytes_eq own name) refl ∙ sym e
      where
        by_name : (b : Bool) → bytes_eq own name ≡ b → bytes_eq own name ≡ false
        by_name false n = n
        by_name true n = absurd (
            let is : own ≡ name = name_is own name n in
            let same : here ≡ place = same-key ks here place name distinct (at ∙ ap (λ z. Some z) is) other in
            let yes : (here == place) ≡ true = grind (arith, nat_tests, same) in cc)

length-untold : (pool : Pool) (o : Option EndLink) → length (untold_of (option_map (link_in pool) o)) ≡ length (untold_by o)
length-untold pool None = refl
length-untold pool (Some l) = size l.requester.items
  where
    size : (ps : List QueuedRequest) → length (untold_in pool ps) ≡ length ps
    size [] = refl
    size (p ∷ ps) = ap suc (size ps)

length-used : (pool : Pool) (o : Option EndLink) → length (in_use (option_map (link_in pool) o)) ≡ length (used_by o)
length-used pool None = refl
length-used pool (Some l) = refl

pub reserved-is : (queues : List (Name × Queue)) (names : Names) (send recv : ℕ) → IsDistinct bytes_eq (keys_of queues) → StandsAt queues names.send_cq send → StandsAt queues names.recv_cq recv
    → (pool : Pool) (e : Endpoint) (place : ℕ) (name : Name) → slice_get (keys_of queues) place ≡ Some name → reserved_by name (end_in pool names e) ≡ promised send recv e place
unfolding reserved_by
reserved-is queues names send recv distinct at-send at-recv pool e place name there =
    let one = eq-place (keys_of queues) send names.send_cq place name distinct (name-at (keys_of queues) names.send_cq send at-send) there in
    let two = eq-place (keys_of queues) recv names.recv_cq place name distinct (name-at (keys_of queues) names.recv_cq recv at-recv) there in
    let untold = length-untold pool e.link in
    let used = length-used pool e.link in
    ap (λ b. count_if b (length (untold_of (option_map (link_in pool) e.link))) + count_if (bytes_eq names.recv_cq name) (length e.recvs.items + length (in_use (option_map (link_in pool) e.link)))) one
    ∙ (ap (λ b. count_if (send == place) (length (untold_of (option_map (link_in pool) e.link))) + count_if b (length e.recvs.items + length (in_use (option_map (link_in pool) e.link)))) two
    ∙ (ap (λ n. count_if (send == place) n + count_if (recv == place) (length e.recvs.items + length (in_use (option_map (link_in pool) e.link)))) untold
    ∙ ap (λ n. count_if (send == place) (length (untold_by e.link)) + count_if (recv == place) (length e.recvs.items + n)) used))
