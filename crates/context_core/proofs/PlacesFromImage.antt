-- Names and places of an image, one after another.
use Rattle.std.proofs.Common.{◌≡◌, ◌≢◌, ℕ, zero, suc, ◌+◌, ◌<◌, ◌≤◌, Bool, true, false, List, [], ◌∷◌, ◌++◌, length, take, get_or, refl, ap, sym, ◌∙◌, subst, arith}
use Rattle.std.specs.Prelude.{Option, Some, None, IfSome, map, All, AllPairs, bytes_eq, slice_get, if◌then◌else◌}
use Rattle.std.specs.List.{AllByRecursion, list_any}
use Rattle.std.specs.Map.{keys_of, lookup, values_of}
use Rattle.std.proofs.lemmas.Bool.Decides.{nat_tests}
use Rattle.std.proofs.lemmas.List.{get_or-take, get_or_default, length-map, length-take-le, map-append, take_more}
use Rattle.std.proofs.lemmas.List.Elements.{recursion_from_All}
use Rattle.indexmap.specs.IndexMap.{set_value_at}
use Rattle.rdma_types.specs.declared.names.Name.{Name}
use Rattle.rdma_types.proofs.Tables.{name_is}
use Rattle.end_queues.specs.Completions.{Queue, used_places}
use Rattle.endpoint_core.specs.Queues.{count_at, queues_of, reserved_in}
use Rattle.protocol.specs.declared.images.CqImage.{CqImage}
use Rattle.protocol.specs.declared.images.EndImage.{EndImage}
use Rattle.context_core.specs.Coming.{AreReservedFor, HasPlaces, promised_to, queue_after, used_of_image}
use Rattle.context_core.proofs.ReservedCompletions.{keys-set}

-- ---- names

pub differ : (a b : Name) → a ≢ b → bytes_eq a b ≡ false
differ a b n = by_test (bytes_eq a b) refl
  where
    by_test : (t : Bool) → bytes_eq a b ≡ t → bytes_eq a b ≡ false
    by_test true e = absurd (n (name_is a b e))
    by_test false e = e

module _ {X : Type 0} (f : X → Name) (xs : List X) (i : ℕ) (x : X) (lt : i < length xs) (is : x ≡ get_or xs i x) (pairs : AllPairs (λ a b. f a ≢ f b) xs) where
  -- those before one have other names
  pub lacks-before : All (λ y. bytes_eq (f x) (f y) ≡ false) (take i xs)
  lacks-before k d below =
      let count : length (take i xs) ≡ i = length-take-le i xs (omega arith) in
      let before : k < i = omega arith in
      let same : get_or (take i xs) k d ≡ get_or xs k x = get_or-take i xs k d before ∙ get_or_default xs k d x (omega arith) in
      let apart : f (get_or xs k x) ≢ f (get_or xs i x) = pairs k i x before lt in
      ap (λ y. bytes_eq (f x) (f y)) same ∙ differ (f x) (f (get_or xs k x)) (λ e. apart (sym e ∙ ap f is))

-- pairs of things are those of what they are shown as
pub pairs-unmap : {A B : Type 0} (R : B → B → Type 0) (f : A → B) (xs : List A) → AllPairs R (map f xs) → AllPairs (λ a b. R (f a) (f b)) xs
pairs-unmap R f xs h i j d lt below =
    let there : j < length (map f xs) = omega (arith, length-map xs f, below) in
    subst (λ y. R y (f (get_or xs j d))) (shown xs i (omega arith)) (subst (R (get_or (map f xs) i (f d))) (shown xs j below) (h i j (f d) lt there))
  where
    shown : (ys : List _) (k : ℕ) → k < length ys → get_or (map f ys) k (f d) ≡ f (get_or ys k d)
    shown [] k l = absurd (omega arith)
    shown (y ∷ ys) zero l = refl
    shown (y ∷ ys) (suc k) l = shown ys k (omega arith)

none-any : {X : Type 0} (test : X → Bool) (xs : List X) → AllByRecursion (λ y. test y ≡ false) xs → list_any test xs ≡ false
none-any test [] h = refl
none-any test (x ∷ xs) h = let rest = none-any test xs h.1 in let here = h.0 in grind (arith, here, rest)

pub domain-new : (ns : List Name) (i : ℕ) (n : Name) → i < length ns → n ≡ get_or ns i n → AllPairs (λ a b. a ≢ b) ns → list_any (bytes_eq n) (take i ns) ≡ false
domain-new ns i n lt is pairs = none-any (bytes_eq n) (take i ns) (recursion_from_All (λ y. bytes_eq n y ≡ false) (take i ns) (lacks-before (λ y. y) ns i n lt is pairs))

pub domain-more : (ns ks next : List Name) (i : ℕ) (n : Name) → i < length ns → n ≡ get_or ns i n → AllPairs (λ a b. a ≢ b) ns → ks ≡ take i ns → next ≡ (if list_any (bytes_eq n) ks then ks else ks ++ n ∷ []) → next ≡ take (i + 1) ns
domain-more ns ks next i n lt is pairs e put =
    let new : list_any (bytes_eq n) ks ≡ false = ap (list_any (bytes_eq n)) e ∙ domain-new ns i n lt is pairs in
    put ∙ (ap (λ b. if b then ks else ks ++ n ∷ []) new ∙ (ap (λ xs. xs ++ n ∷ []) e ∙ (ap (λ y. take i ns ++ y ∷ []) is ∙ sym (take_more ns i n lt))))

pub lookup-none : {V : Type 0} (n : Name) (es : List (Name × V)) → AllByRecursion (λ y. bytes_eq n y ≡ false) (keys_of es) → lookup (bytes_eq n) es ≡ None
lookup-none n [] h = refl
lookup-none n (e ∷ es) h = let rest = lookup-none n es h.1 in rw (h.0) rest

keys-after : (n : Name) (qs : List CqImage) → AllByRecursion (λ q. bytes_eq n q.name ≡ false) qs → AllByRecursion (λ y. bytes_eq n y ≡ false) (keys_of (map queue_after qs))
keys-after n [] h = tt
keys-after n (q ∷ qs) h = (h.0, keys-after n qs h.1)

pub queue-new : (qs : List CqImage) (i : ℕ) (q : CqImage) → i < length qs → q ≡ get_or qs i q → AllPairs (λ a b. a.name ≢ b.name) qs → lookup (bytes_eq q.name) (map queue_after (take i qs)) ≡ None
queue-new qs i q lt is pairs = lookup-none q.name (map queue_after (take i qs)) (keys-after q.name (take i qs) (recursion_from_All (λ y. bytes_eq q.name y.name ≡ false) (take i qs) (lacks-before (λ y. y.name) qs i q lt is pairs)))

pub queue-more : (qs : List CqImage) (i : ℕ) (q : CqImage) → i < length qs → q ≡ get_or qs i q → map queue_after (take i qs) ++ queue_after q ∷ [] ≡ map queue_after (take (i + 1) qs)
queue-more qs i q lt is = sym (ap (map queue_after) (take_more qs i q lt ∙ ap (λ y. take i qs ++ y ∷ []) (sym is)) ∙ map-append queue_after (take i qs) (q ∷ []))

-- ---- places

-- so many places more
abbrev pub with_places : Queue → ℕ → Queue
with_places q n = record q { reserved = q.reserved + n }

reserved-many : (qs : List (Name × Queue)) (place : ℕ) (q : Queue) (n k : ℕ) → slice_get (values_of qs) place ≡ Some q → reserved_in (set_value_at qs place (with_places q n)) k ≡ reserved_in qs k + count_at place n k
reserved-many [] place q n k s = absurd (cc)
reserved-many (x ∷ xs) zero q n zero s = let same : x.1 ≡ q = cc in ap (λ y. y.reserved + n) (sym same)
reserved-many (x ∷ xs) zero q n (suc k) s = grind (arith, nat_tests)
reserved-many (x ∷ xs) (suc i) q n zero s = grind (arith, nat_tests)
reserved-many (x ∷ xs) (suc i) q n (suc k) s = reserved-many xs i q n k s ∙ ap (λ m. reserved_in xs k + m) (grind (arith, nat_tests))

shown-many : (qs : List (Name × Queue)) (place : ℕ) (q : Queue) (n : ℕ) → slice_get (values_of qs) place ≡ Some q → queues_of (set_value_at qs place (with_places q n)) ≡ queues_of qs
shown-many [] place q n s = absurd (cc)
shown-many (x ∷ xs) zero q n s = let same : x.1 ≡ q = cc in ap (λ y. record { name = x.0; capacity = y.capacity; entries = y.entries } ∷ queues_of xs) (sym same)
shown-many (x ∷ xs) (suc i) q n s = ap (λ ys. record { name = x.0; capacity = x.1.capacity; entries = x.1.entries } ∷ ys) (shown-many xs i q n s)

room-many : (qs : List (Name × Queue)) (place : ℕ) (q : Queue) (n k m : ℕ) → slice_get (values_of qs) place ≡ Some q → IfSome (slice_get (values_of qs) k) (λ x. used_places x + (count_at place n k + m) ≤ x.capacity) → IfSome (slice_get (values_of (set_value_at qs place (with_places q n))) k) (λ x. used_places x + m ≤ x.capacity)
room-many [] place q n k m s h = absurd (cc)
room-many (x ∷ xs) zero q n zero m s h = let same : x.1 ≡ q = cc in subst (λ y. (length y.entries + (y.reserved + n)) + m ≤ y.capacity) same (let f = h in omega (arith, f))
room-many (x ∷ xs) zero q n (suc k) m s h = weaker (slice_get (values_of xs) k) h
  where
    weaker : (o : Option Queue) → IfSome o (λ y. used_places y + (count_at zero n (suc k) + m) ≤ y.capacity) → IfSome o (λ y. used_places y + m ≤ y.capacity)
    weaker None g = tt
    weaker (Some y) g = let f = g in omega (arith, f)
room-many (x ∷ xs) (suc i) q n zero m s h = let f = h in omega (arith, f)
room-many (x ∷ xs) (suc i) q n (suc k) m s h = room-many xs i q n k m s (subst (λ c. IfSome (slice_get (values_of xs) k) (λ y. used_places y + (c + m) ≤ y.capacity)) (grind (arith, nat_tests)) h)

-- so many places of the queue at a place are reserved
pub record Reserves (old new : List (Name × Queue)) (place n : ℕ) : Type 0 where
  pub names : keys_of new ≡ keys_of old
  pub shown : queues_of new ≡ queues_of old
  pub reserved : (k : ℕ) → reserved_in new k ≡ reserved_in old k + count_at place n k
  pub room : (k m : ℕ) → IfSome (slice_get (values_of old) k) (λ x. used_places x + (count_at place n k + m) ≤ x.capacity) → IfSome (slice_get (values_of new) k) (λ x. used_places x + m ≤ x.capacity)

value-there : (qs : List (Name × Queue)) (place : ℕ) → place < length qs → (q : Queue) × (slice_get (values_of qs) place ≡ Some q)
value-there [] place lt = absurd (omega arith)
value-there (x ∷ xs) zero lt = (x.1, refl)
value-there (x ∷ xs) (suc i) lt = value-there xs i (omega arith)

pub reserves : (old new : List (Name × Queue)) (place n : ℕ) → place < length old → IfSome (slice_get (values_of old) place) (λ q. new ≡ set_value_at old place (with_places q n)) → Reserves old new place n
reserves old new place n lt h =
    let v = value-there old place lt in
    let is : new ≡ set_value_at old place (with_places v.0 n) = subst (λ o. IfSome o (λ q. new ≡ set_value_at old place (with_places q n))) v.1 h in
    record {
      names = ap keys_of is ∙ keys-set old place (with_places v.0 n);
      shown = ap queues_of is ∙ shown-many old place v.0 n v.1;
      reserved = λ k. ap (λ qs. reserved_in qs k) is ∙ reserved-many old place v.0 n k v.1;
      room = λ k m g. subst (λ qs. IfSome (slice_get (values_of qs) k) (λ x. used_places x + m ≤ x.capacity)) (sym is) (room-many old place v.0 n k m v.1 g);
    }

pub keys-count : {V : Type 0} (es : List (Name × V)) → length (keys_of es) ≡ length es
keys-count [] = refl
keys-count (e ∷ es) = ap suc (keys-count es)

pub count-kept : (old new : List (Name × Queue)) (place n : ℕ) → Reserves old new place n → length new ≡ length old
count-kept old new place n r = sym (keys-count new) ∙ (ap length r.names ∙ keys-count old)

-- both queues of an end
reserves-both : (old mid new : List (Name × Queue)) (e : EndImage) (sends receives : ℕ) → Reserves old mid e.send_cq sends → Reserves mid new e.recv_cq receives → ((place : ℕ) → promised_to e place ≡ count_at e.send_cq sends place + count_at e.recv_cq receives place) → AreReservedFor old new e
reserves-both old mid new e sends receives first second is = record {
  names = second.names ∙ first.names;
  shown = second.shown ∙ first.shown;
  reserved = λ place. let a = first.reserved place in let b = second.reserved place in let c = is place in omega (arith, a, b, c);
}

count-here : (place n : ℕ) → count_at place n place ≡ n
count-here place n = grind (arith, nat_tests)

promised-is : (e : EndImage) (sends receives place : ℕ) → sends ≡ length e.untold → receives ≡ length e.unused + used_of_image e.linked → promised_to e place ≡ count_at e.send_cq sends place + count_at e.recv_cq receives place
promised-is e sends receives place a b = ap (λ n. count_at e.send_cq n place + count_at e.recv_cq (length e.unused + used_of_image e.linked) place) (sym a) ∙ ap (λ n. count_at e.send_cq sends place + count_at e.recv_cq n place) (sym b)

pub room-part : (queues : List (Name × Queue)) (e : EndImage) (sends receives : ℕ) → HasPlaces queues e → sends ≡ length e.untold → receives ≡ length e.unused + used_of_image e.linked
    → IfSome (slice_get (values_of queues) e.recv_cq) (λ x. used_places x + (count_at e.send_cq sends e.recv_cq + receives) ≤ x.capacity)
room-part queues e sends receives has a b =
    subst (λ n. IfSome (slice_get (values_of queues) e.recv_cq) (λ x. used_places x + n ≤ x.capacity)) (promised-is e sends receives e.recv_cq a b ∙ ap (λ n. count_at e.send_cq sends e.recv_cq + n) (count-here e.recv_cq receives)) (has e.recv_cq)

pub reserves-end : (old mid new : List (Name × Queue)) (e : EndImage) (sends receives : ℕ) → Reserves old mid e.send_cq sends → Reserves mid new e.recv_cq receives → sends ≡ length e.untold → receives ≡ length e.unused + used_of_image e.linked → AreReservedFor old new e
reserves-end old mid new e sends receives first second a b = reserves-both old mid new e sends receives first second (λ place. promised-is e sends receives place a b)
