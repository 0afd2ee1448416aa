-- The place of a region among the others.
use Rattle.std.proofs.Common.{◌≡◌, ℕ, zero, suc, ◌+◌, ◌<◌, Bool, true, false, List, [], ◌∷◌, length, refl, ap, sym, ◌∙◌, arith}
use Rattle.std.specs.Prelude.{◌==◌, All, Option, Some, None, IsSome, IsSomeAnd, is_some, nat_eq, nat_lt, position, slice_get, if◌then◌else◌}
use Rattle.std.specs.Cmp.{nat_eq_equiv}
use Rattle.std.specs.List.{IsDistinct, position_or_len}
use Rattle.std.specs.Map.{keys_of, values_of}
use Rattle.std.proofs.lemmas.Bool.Decides.{nat_tests}
use Rattle.std.proofs.lemmas.Grind.{common_steps}
use Rattle.std.proofs.lemmas.List.Elements.{All-head, All-tail}
use Rattle.std.proofs.lemmas.Map.Entries.{length-keys_of}
use Rattle.std.proofs.lemmas.Option.{slice_get_within}
use Rattle.rdma_types.specs.Lists.{first_that}
use Rattle.memory_keys.specs.declared.RegisteredRegion.{RegisteredRegion}
use Rattle.memory_keys.specs.Regions.{held_at}
use Rattle.memory_keys.proofs.Copies.{apart}

abbrev IsUnder : ℕ × RegisteredRegion → Type 0
IsUnder e = e.0 ≡ e.1.head.keys.local

as_many : (es : List (ℕ × RegisteredRegion)) → length (keys_of es) ≡ length (values_of es)
as_many [] = refl
as_many (e ∷ es) = ap suc (as_many es)

first_place : (key : ℕ) (es : List (ℕ × RegisteredRegion)) → All IsUnder es → position_or_len (nat_eq key) (keys_of es) ≡ position_or_len (λ h. h.head.keys.local == key) (values_of es)
first_place key [] h = refl
first_place key (e ∷ es) h = by (nat_eq key e.0) refl (first_place key es (All-tail IsUnder e es h)) (All-head IsUnder e es h)
  where
    by : (b : Bool) → nat_eq key e.0 ≡ b → position_or_len (nat_eq key) (keys_of es) ≡ position_or_len (λ h. h.head.keys.local == key) (values_of es) → IsUnder e → position_or_len (nat_eq key) (keys_of (e ∷ es)) ≡ position_or_len (λ h. h.head.keys.local == key) (values_of (e ∷ es))
    by true t rest here = let same : (e.1.head.keys.local == key) ≡ true = grind (arith, nat_tests, here, t) in grind (arith, t, same)
    by false t rest here = let same : (e.1.head.keys.local == key) ≡ false = grind (arith, nat_tests, here, t) in grind (arith, t, same, rest)

-- a key stands at the place of its region
pub place_is : (key : ℕ) (es : List (ℕ × RegisteredRegion)) → All IsUnder es → position (nat_eq key) (keys_of es) ≡ position (λ h. h.head.keys.local == key) (values_of es)
place_is key es h =
    ap (λ k. if nat_lt k (length (keys_of es)) then Some k else None) (first_place key es h)
    ∙ ap (λ l. if nat_lt (position_or_len (λ h. h.head.keys.local == key) (values_of es)) l then Some (position_or_len (λ h. h.head.keys.local == key) (values_of es)) else None) (as_many es)

-- ---- where an entry has a key

first_there : (key i : ℕ) (es : List (ℕ × RegisteredRegion)) (h : RegisteredRegion) → IsDistinct nat_eq (keys_of es) → slice_get es i ≡ Some (key, h) → position_or_len (nat_eq key) (keys_of es) ≡ i
unfolding IsDistinct
first_there key i [] h d at = cc
first_there key zero (e ∷ es) h d at =
    let same : e ≡ (key, h) = cc in
    let yes : nat_eq key e.0 ≡ true = grind (arith, nat_tests, ap (λ p. p.0) same) in
    rw yes refl
first_there key (suc i) (e ∷ es) h d at =
    let no : nat_eq key e.0 ≡ false = apart nat_eq nat_eq_equiv.symm e.0 es i key h d.0 at in
    let later = first_there key i es h d.1 at in
    rw no (omega (arith, later))

-- the key's place is the entry's
pub place_there : (key i : ℕ) (es : List (ℕ × RegisteredRegion)) (h : RegisteredRegion) → IsDistinct nat_eq (keys_of es) → slice_get es i ≡ Some (key, h) → position (nat_eq key) (keys_of es) ≡ Some i
place_there key i es h d at =
    let inside : i < length (keys_of es) = omega (arith, slice_get_within es i (key, h) at, length-keys_of es) in
    let yes : nat_lt i (length (keys_of es)) ≡ true = grind (arith, nat_tests) in
    ap (λ k. if nat_lt k (length (keys_of es)) then Some k else None) (first_there key i es h d at) ∙ rw yes refl

-- ---- the region at the place of a key

at_first : (test : RegisteredRegion → Bool) (hs : List RegisteredRegion) → slice_get hs (position_or_len test hs) ≡ first_that test hs
unfolding first_that
at_first test [] = refl
at_first test (x ∷ xs) = by_test (test x) refl (at_first test xs)
  where
    by_test : (b : Bool) → test x ≡ b → slice_get xs (position_or_len test xs) ≡ first_that test xs → slice_get (x ∷ xs) (position_or_len test (x ∷ xs)) ≡ first_that test (x ∷ xs)
    by_test true t rest = rw t refl
    by_test false t rest = let next : 1 + position_or_len test xs ≡ suc (position_or_len test xs) = omega arith in rw (t, next) rest

module _ (key : ℕ) (hs : List RegisteredRegion) where
  -- it is the one that the key finds
  place_held : (i : ℕ) → position (λ h. h.head.keys.local == key) hs ≡ Some i → slice_get hs i ≡ held_at key hs
  place_held i e =
      let same : position_or_len (λ h. h.head.keys.local == key) hs ≡ i = grind (arith, common_steps) in
      ap (slice_get hs) (sym same) ∙ at_first (λ h. h.head.keys.local == key) hs

  -- it has a place where the key finds it
  pub place_some : (r : Option ℕ) (P : RegisteredRegion → Type 0) → r ≡ position (λ h. h.head.keys.local == key) hs → IsSomeAnd (held_at key hs) P → IsSome r
  place_some r P e there = by_case (held_at key hs) refl there
    where
      by_case : (o : Option RegisteredRegion) → held_at key hs ≡ o → IsSomeAnd o P → IsSome r
      by_case None f q = absurd q
      by_case (Some h) f q =
          let inside : position_or_len (λ h. h.head.keys.local == key) hs < length hs = slice_get_within hs _ h (at_first (λ h. h.head.keys.local == key) hs ∙ f) in
          let yes : nat_lt (position_or_len (λ h. h.head.keys.local == key) hs) (length hs) ≡ true = grind (arith, nat_tests) in
          ap is_some e ∙ rw yes refl

-- the region at the place of a key, where the list is seen as another
pub found_at : (key i : ℕ) (vs hs : List RegisteredRegion) (h : RegisteredRegion) → vs ≡ hs → position (λ x. x.head.keys.local == key) hs ≡ Some i → slice_get vs i ≡ Some h → held_at key hs ≡ Some h
found_at key i vs hs h same place at = sym (place_held key hs i place) ∙ (ap (λ xs. slice_get xs i) (sym same) ∙ at)
