-- A region dropped from among the others.
use Rattle.std.proofs.Common.{◌≡◌, ℕ, zero, suc, ◌<◌, ◌≢◌, Bool, true, false, List, [], ◌∷◌, get_or, refl, ap, sym, ◌∙◌, arith, subst}
use Rattle.std.specs.Prelude.{◌==◌, All, Some, None, nat_eq, map, bytes_eq, position, slice_get, remove}
use Rattle.std.specs.List.{IsDistinct, list_any}
use Rattle.std.specs.Map.{values_of}
use Rattle.std.proofs.lemmas.List.Elements.{All-head, All-tail, All-nil, All-cons}
use Rattle.std.proofs.lemmas.List.Quantifiers.{position-Some}
use Rattle.std.proofs.lemmas.Bool.Decides.{nat_tests}
use Rattle.rdma_types.specs.Causes.{first_cause}
use Rattle.rdma_types.specs.Lists.{has_name, named, without}
use Rattle.rdma_types.specs.Objects.{Region}
use Rattle.rdma_types.specs.declared.answers.Refusal.TheVariants as refusal
use Rattle.rdma_types.specs.declared.names.Name.{Name}
use Rattle.page_pool.specs.Pool.{Pool, Puts}
use Rattle.memory_keys.specs.Causes.{deregister_causes, region_named}
use Rattle.memory_keys.specs.Regions.{AreHeld, KeepsOthers, Lies, region_of, regions_of}
use Rattle.memory_keys.specs.declared.RegisteredRegion.{RegisteredRegion}
use Rattle.memory_keys.proofs.Stores.{IsApart, lie-apart, regions-apart}

-- ---- the causes in their order

pub not-there : (rs : List Region) (n : Name) (busy : List ℕ) → has_name (λ r. r.name) n rs ≡ false → Some refusal.NoSuch ≡ first_cause (deregister_causes rs n busy)
unfolding first_cause
not-there rs n busy e = rw e refl

pub in-use : (rs : List Region) (n : Name) (busy : List ℕ) → has_name (λ r. r.name) n rs ≡ true → list_any (λ key. key == (region_named n rs).keys.local) busy ≡ true → Some refusal.InUse ≡ first_cause (deregister_causes rs n busy)
unfolding first_cause
in-use rs n busy e u = rw e (rw u refl)

pub free-to-drop : (rs : List Region) (n : Name) (busy : List ℕ) → has_name (λ r. r.name) n rs ≡ true → list_any (λ key. key == (region_named n rs).keys.local) busy ≡ false → None ≡ first_cause (deregister_causes rs n busy)
unfolding first_cause
free-to-drop rs n busy e u = rw e (rw u refl)

-- ---- one of a list

module _ {X : Type 0} (P : X → Type 0) where
  pub all-at : (xs : List X) (i : ℕ) (x : X) → All P xs → slice_get xs i ≡ Some x → P x
  all-at [] i x h e = absurd (cc)
  all-at (y ∷ ys) zero x h e = let same : y ≡ x = cc in subst P same (All-head P y ys h)
  all-at (y ∷ ys) (suc i) x h e = all-at ys i x (All-tail P y ys h) e

  pub all-removed : (xs : List X) (i : ℕ) → All P xs → All P (remove xs i)
  all-removed [] zero h = All-nil P
  all-removed [] (suc i) h = All-nil P
  all-removed (y ∷ ys) zero h = All-tail P y ys h
  all-removed (y ∷ ys) (suc i) h = All-cons P y (remove ys i) (All-head P y ys h) (all-removed ys i (All-tail P y ys h))

get-at : {X : Type 0} (xs : List X) (i : ℕ) (x d : X) → slice_get xs i ≡ Some x → get_or xs i d ≡ x
get-at [] i x d e = absurd (cc)
get-at (y ∷ ys) zero x d e = cc
get-at (y ∷ ys) (suc i) x d e = get-at ys i x d e

-- what is seen of an entry
pub seen-at : (es : List (ℕ × RegisteredRegion)) (i : ℕ) (e : ℕ × RegisteredRegion) → slice_get es i ≡ Some e → slice_get (values_of es) i ≡ Some e.1
seen-at [] i e h = absurd (cc)
seen-at (x ∷ xs) zero e h = let same : x ≡ e = cc in ap (λ y. Some y.1) same
seen-at (x ∷ xs) (suc i) e h = seen-at xs i e h

pub seen-removed : (es : List (ℕ × RegisteredRegion)) (i : ℕ) → values_of (remove es i) ≡ remove (values_of es) i
seen-removed [] zero = refl
seen-removed [] (suc i) = refl
seen-removed (x ∷ xs) zero = refl
seen-removed (x ∷ xs) (suc i) = ap (λ vs. x.1 ∷ vs) (seen-removed xs i)

-- ---- the first region with a name

-- it is the one that is named, and that the others are without
pub record IsFirst (pool : Pool) (n : Name) (hs : List RegisteredRegion) (i : ℕ) (h : RegisteredRegion) : Type 0 where
  pub there : has_name (λ r. r.name) n (regions_of pool hs) ≡ true
  pub first : region_named n (regions_of pool hs) ≡ region_of pool h
  pub rest : without (λ r. r.name) n (regions_of pool hs) ≡ regions_of pool (remove hs i)

first-at : (pool : Pool) (n : Name) (hs : List RegisteredRegion) (i : ℕ) (h : RegisteredRegion) → slice_get hs i ≡ Some h → bytes_eq h.head.name n ≡ true → ((k : ℕ) → k < i → bytes_eq (get_or hs k h).head.name n ≡ false) → IsFirst pool n hs i h
unfolding has_name named without
first-at pool n [] i h e t before = absurd (cc)
first-at pool n (x ∷ xs) zero h e t before =
    let same : h ≡ x = cc in
    let t' : bytes_eq x.head.name n ≡ true = ap (λ y. bytes_eq y.head.name n) (sym same) ∙ t in
    record { there = rw t' refl; first = rw t' (ap (region_of pool) (sym same)); rest = rw t' refl }
first-at pool n (x ∷ xs) (suc i) h e t before =
    let no : bytes_eq x.head.name n ≡ false = before 0 (omega arith) in
    let later = first-at pool n xs i h e t (λ k l. before (suc k) (omega arith)) in
    record { there = rw no later.there; first = rw no later.first; rest = rw no (ap (λ rs. region_of pool x ∷ rs) later.rest) }

pub is-first : (pool : Pool) (n : Name) (hs : List RegisteredRegion) (i : ℕ) (h : RegisteredRegion) → Some i ≡ position (λ x. bytes_eq x.head.name n) hs → slice_get hs i ≡ Some h → IsFirst pool n hs i h
is-first pool n hs i h e s =
    let found = position-Some (λ x. bytes_eq x.head.name n) hs i h (sym e) in
    first-at pool n hs i h s (ap (λ x. bytes_eq x.head.name n) (sym (get-at hs i h h s)) ∙ found.1) found.2

-- the key of the first region with a name, as it is asked for
pub asked-key : (pool : Pool) (n : Name) (es : List (ℕ × RegisteredRegion)) (hs : List RegisteredRegion) (i : ℕ) (e : ℕ × RegisteredRegion) (busy : List ℕ) (b : Bool) → values_of es ≡ hs → All (λ x. x.0 ≡ x.1.head.keys.local) es → Some i ≡ position (λ x. bytes_eq x.head.name n) hs → slice_get es i ≡ Some e → b ≡ list_any (λ key. key == e.0) busy → (has_name (λ r. r.name) n (regions_of pool hs) ≡ true) × (list_any (λ key. key == (region_named n (regions_of pool hs)).keys.local) busy ≡ b)
asked-key pool n es hs i e busy b v keys p s any =
    let first = is-first pool n hs i e.1 p (ap (λ xs. slice_get xs i) (sym v) ∙ seen-at es i e s) in
    let key : (region_named n (regions_of pool hs)).keys.local ≡ e.0 = ap (λ r. r.keys.local) first.first ∙ sym (all-at (λ x. x.0 ≡ x.1.head.keys.local) es i e keys s) in
    (first.there, ap (λ k. list_any (λ key. key == k) busy) key ∙ sym any)

-- ---- the lists of the others

gone : (k i : ℕ) (hs : List RegisteredRegion) → IsApart k hs → IsApart k (remove hs i)
gone k zero [] a = tt
gone k (suc i) [] a = tt
gone k zero (x ∷ xs) a = a.1
gone k (suc i) (x ∷ xs) a = (a.0, gone k i xs a.1)

apart-at : (k i : ℕ) (hs : List RegisteredRegion) (h : RegisteredRegion) → IsApart k hs → slice_get hs i ≡ Some h → nat_eq k h.list ≡ false
apart-at k i [] h a e = absurd (cc)
apart-at k zero (x ∷ xs) h a e = let same : x ≡ h = cc in subst (λ y. nat_eq k y.list ≡ false) same a.0
apart-at k (suc i) (x ∷ xs) h a e = apart-at k i xs h a.1 e

pub others-apart : (hs : List RegisteredRegion) (i : ℕ) (h : RegisteredRegion) → IsDistinct nat_eq (map (λ x. x.list) hs) → slice_get hs i ≡ Some h → IsApart h.list (remove hs i) × IsDistinct nat_eq (map (λ x. x.list) (remove hs i))
unfolding IsDistinct
others-apart [] i h d e = absurd (cc)
others-apart (x ∷ xs) zero h d e = let same : x ≡ h = cc in (subst (λ y. IsApart y.list xs) same d.0, d.1)
others-apart (x ∷ xs) (suc i) h d e =
    let rest = others-apart xs i h d.1 e in
    let differs : nat_eq x.list h.list ≡ false = apart-at x.list i xs h d.0 e in
    let differs' : nat_eq h.list x.list ≡ false = grind (arith, nat_tests, differs) in
    ((differs', rest.0), (gone x.list i xs d.0, rest.1))

pub held-without : (a b : Pool) (hs : List RegisteredRegion) (i : ℕ) (h : RegisteredRegion) → AreHeld a hs → slice_get hs i ≡ Some h → Puts a b h.list None → AreHeld b (remove hs i)
held-without a b hs i h are e p =
    let apart = others-apart hs i h are.apart e in
    record { lie = lie-apart a b h.list None (remove hs i) p apart.0 (all-removed (Lies a) hs i are.lie); apart = apart.1 }

pub regions-without : (a b : Pool) (hs : List RegisteredRegion) (i : ℕ) (h : RegisteredRegion) → AreHeld a hs → slice_get hs i ≡ Some h → Puts a b h.list None → regions_of b (remove hs i) ≡ regions_of a (remove hs i)
regions-without a b hs i h are e p = regions-apart a b h.list None (remove hs i) p (others-apart hs i h are.apart e).0

pub others-without : (a b : Pool) (hs : List RegisteredRegion) (i : ℕ) (h : RegisteredRegion) → slice_get hs i ≡ Some h → Puts a b h.list None → KeepsOthers a b hs
others-without a b hs i h e p = record { pages = p.pages; others = λ list there apart. p.others list (λ same. all-at (λ x. x.list ≢ list) hs i h apart e (sym same)) }
