-- A region that is found by its key is the one of its name.
use Rattle.std.proofs.Common.{arith, ◌≡◌, ℕ, ◌+◌, ◌-◌, ◌≤◌, List, [], ◌∷◌, length, true, false, Bool, refl, ap, eq-eqb}
use Rattle.std.specs.Prelude.{bytes_eq, count_by, if◌then◌else◌, ◌||◌, ◌==◌}
use Rattle.rdma_types.specs.Lists.{has_name, named}
use Rattle.rdma_types.specs.Memory.{cut, holds, put}
use Rattle.rdma_types.specs.Objects.{Region, no_region}
use Rattle.packetless_machine.specs.Machine.{bytes_at, put_at}
use Rattle.law_mailbox.proofs.queue_room.Counts.{count_cons, one_if}

module _ (key_of : Region → ℕ) (key : ℕ) (n : List ℕ) where
  -- one of them has the key
  some_keyed : (rs : List Region) → has_name (λ r. r.name) n rs ≡ true → key_of (named (λ r. r.name) no_region n rs) ≡ key → 1 ≤ count_by (λ r. key_of r == key) rs
  unfolding has_name named
  some_keyed [] there is = cc
  some_keyed (r ∷ rs) there is = by (bytes_eq r.name n) (some_keyed rs) there is
    where
      counted : count_by (λ x. key_of x == key) (r ∷ rs) ≡ one_if (key_of r == key) + count_by (λ x. key_of x == key) rs
      counted = count_cons (λ x. key_of x == key) r rs

      by : (b : Bool) → (has_name (λ x. x.name) n rs ≡ true → key_of (named (λ x. x.name) no_region n rs) ≡ key → 1 ≤ count_by (λ x. key_of x == key) rs) →
          (b || has_name (λ x. x.name) n rs) ≡ true → key_of (if b then r else named (λ x. x.name) no_region n rs) ≡ key → 1 ≤ count_by (λ x. key_of x == key) (r ∷ rs)
      by true rest f is' = let one : one_if (key_of r == key) ≡ 1 = ap one_if (eq-eqb (key_of r) key is') in let c = count_cons (λ x. key_of x == key) r rs in omega (arith, one, c)
      by false rest f is' = let more = rest f is' in let c = count_cons (λ x. key_of x == key) r rs in omega (arith, more, c)

  -- the others have another key
  other_key : (r : Region) (rs : List Region) → count_by (λ x. key_of x == key) (r ∷ rs) ≤ 1 → 1 ≤ count_by (λ x. key_of x == key) rs → (key_of r == key) ≡ false
  other_key r rs once some = by (key_of r == key) refl (count_cons (λ x. key_of x == key) r rs)
    where
      by : (b : Bool) → (key_of r == key) ≡ b → count_by (λ x. key_of x == key) (r ∷ rs) ≡ one_if b + count_by (λ x. key_of x == key) rs → (key_of r == key) ≡ false
      by true e c = absurd (omega (arith, once, some, c))
      by false e c = e

  fewer : (r : Region) (rs : List Region) → count_by (λ x. key_of x == key) (r ∷ rs) ≤ 1 → count_by (λ x. key_of x == key) rs ≤ 1
  fewer r rs once = let c = count_cons (λ x. key_of x == key) r rs in omega (arith, once, c)

  module _ (address : ℕ) where
    -- bytes that are read by a key
    pub bytes_by_key : (count : ℕ) (rs : List Region) → has_name (λ r. r.name) n rs ≡ true → key_of (named (λ r. r.name) no_region n rs) ≡ key → count_by (λ r. key_of r == key) rs ≤ 1 →
        holds (named (λ r. r.name) no_region n rs) address count ≡ true →
        bytes_at key_of key address count rs ≡ cut (address - (named (λ r. r.name) no_region n rs).base) count (named (λ r. r.name) no_region n rs).bytes
    unfolding has_name named bytes_at
    bytes_by_key count [] there is once held = cc
    bytes_by_key count (r ∷ rs) there is once held = by (bytes_eq r.name n) (bytes_by_key count rs) there is held
      where
        by : (b : Bool) → (has_name (λ x. x.name) n rs ≡ true → key_of (named (λ x. x.name) no_region n rs) ≡ key → count_by (λ x. key_of x == key) rs ≤ 1 → holds (named (λ x. x.name) no_region n rs) address count ≡ true →
            bytes_at key_of key address count rs ≡ cut (address - (named (λ x. x.name) no_region n rs).base) count (named (λ x. x.name) no_region n rs).bytes) →
            (b || has_name (λ x. x.name) n rs) ≡ true → key_of (if b then r else named (λ x. x.name) no_region n rs) ≡ key → holds (if b then r else named (λ x. x.name) no_region n rs) address count ≡ true →
            bytes_at key_of key address count (r ∷ rs) ≡ cut (address - (if b then r else named (λ x. x.name) no_region n rs).base) count (if b then r else named (λ x. x.name) no_region n rs).bytes
        by true rest f is' held' = let k : (key_of r == key) ≡ true = eq-eqb (key_of r) key is' in rw (k, held') refl
        by false rest f is' held' = let k : (key_of r == key) ≡ false = other_key r rs once (some_keyed rs f is') in rw k (rest f is' (fewer r rs once) held')

    -- bytes that are put by a key are put into the region of the name
    pub put_by_key : (new : List ℕ) (rs : List Region) → has_name (λ r. r.name) n rs ≡ true → key_of (named (λ r. r.name) no_region n rs) ≡ key → count_by (λ r. key_of r == key) rs ≤ 1 →
        holds (named (λ r. r.name) no_region n rs) address (length new) ≡ true →
        named (λ r. r.name) no_region n (put_at key_of key address new rs) ≡ record (named (λ r. r.name) no_region n rs) { bytes = put (named (λ r. r.name) no_region n rs).bytes (address - (named (λ r. r.name) no_region n rs).base) new }
    unfolding has_name named put_at
    put_by_key new [] there is once held = cc
    put_by_key new (r ∷ rs) there is once held = by (bytes_eq r.name n) refl (put_by_key new rs) there is held
      where
        by : (b : Bool) → bytes_eq r.name n ≡ b → (has_name (λ x. x.name) n rs ≡ true → key_of (named (λ x. x.name) no_region n rs) ≡ key → count_by (λ x. key_of x == key) rs ≤ 1 → holds (named (λ x. x.name) no_region n rs) address (length new) ≡ true →
            named (λ x. x.name) no_region n (put_at key_of key address new rs) ≡ record (named (λ x. x.name) no_region n rs) { bytes = put (named (λ x. x.name) no_region n rs).bytes (address - (named (λ x. x.name) no_region n rs).base) new }) →
            (b || has_name (λ x. x.name) n rs) ≡ true → key_of (if b then r else named (λ x. x.name) no_region n rs) ≡ key → holds (if b then r else named (λ x. x.name) no_region n rs) address (length new) ≡ true →
            named (λ x. x.name) no_region n (put_at key_of key address new (r ∷ rs)) ≡ record (if b then r else named (λ x. x.name) no_region n rs) { bytes = put (if b then r else named (λ x. x.name) no_region n rs).bytes (address - (if b then r else named (λ x. x.name) no_region n rs).base) new }
        by true e rest f is' held' = let k : (key_of r == key) ≡ true = eq-eqb (key_of r) key is' in rw (k, held', e) refl
        by false e rest f is' held' = let k : (key_of r == key) ≡ false = other_key r rs once (some_keyed rs f is') in rw (k, e) (rest f is' (fewer r rs once) held')
