-- Regions of a context in which bytes are put by a key.
use Rattle.std.proofs.Common.{◌≡◌, ◌≢◌, ℕ, ◌+◌, ◌-◌, List, [], ◌∷◌, length, true, false, Bool, refl, sym, ap, ◌∙◌, ne_eqb}
use Rattle.std.specs.Prelude.{bytes_eq, count_by, if◌then◌else◌, ◌||◌, ◌==◌}
use Rattle.rdma_types.specs.Lists.{has_name, named}
use Rattle.rdma_types.specs.Memory.{holds, put}
use Rattle.rdma_types.specs.Objects.{Region, no_region}
use Rattle.packetless_machine.specs.Machine.{is_at, put_at}
use Rattle.law_mailbox.proofs.work.Channels.{both}
use Rattle.law_mailbox.proofs.queue_room.Counts.{count_cons, one_if}

module _ (key_of : Region → ℕ) (key address : ℕ) (new : List ℕ) where
  -- names stay
  pub names_put : (n : List ℕ) (rs : List Region) → has_name (λ r. r.name) n (put_at key_of key address new rs) ≡ has_name (λ r. r.name) n rs
  unfolding has_name put_at
  names_put n [] = refl
  names_put n (r ∷ rs) = by (is_at key_of key address (length new) r) (names_put n rs)
    where
      by : (b : Bool) → has_name (λ x. x.name) n (put_at key_of key address new rs) ≡ has_name (λ x. x.name) n rs →
          has_name (λ x. x.name) n (if b then record r { bytes = put r.bytes (address - r.base) new } ∷ rs else r ∷ put_at key_of key address new rs) ≡ (bytes_eq r.name n || has_name (λ x. x.name) n rs)
      by true rest = refl
      by false rest = ap (λ (b : Bool). bytes_eq r.name n || b) rest

  -- what does not depend on the bytes is counted as before
  pub counted_put : (test : Region → Bool) → ((r : Region) (bytes : List ℕ) → test (record r { bytes = bytes }) ≡ test r) → (rs : List Region) → count_by test (put_at key_of key address new rs) ≡ count_by test rs
  unfolding put_at
  counted_put test same [] = refl
  counted_put test same (r ∷ rs) = by (is_at key_of key address (length new) r) (counted_put test same rs)
    where
      by : (b : Bool) → count_by test (put_at key_of key address new rs) ≡ count_by test rs →
          count_by test (if b then record r { bytes = put r.bytes (address - r.base) new } ∷ rs else r ∷ put_at key_of key address new rs) ≡ count_by test (r ∷ rs)
      by true rest =
          count_cons test (record r { bytes = put r.bytes (address - r.base) new }) rs
          ∙ (ap (λ (b : Bool). one_if b + count_by test rs) (same r (put r.bytes (address - r.base) new)) ∙ sym (count_cons test r rs))
      by false rest = count_cons test r (put_at key_of key address new rs) ∙ (ap (λ (n : ℕ). one_if (test r) + n) rest ∙ sym (count_cons test r rs))

  -- a region with another key stays
  pub others_put : (n : List ℕ) (rs : List Region) → key_of (named (λ r. r.name) no_region n rs) ≢ key → named (λ r. r.name) no_region n (put_at key_of key address new rs) ≡ named (λ r. r.name) no_region n rs
  unfolding named put_at
  others_put n [] other = refl
  others_put n (r ∷ rs) other = by (bytes_eq r.name n) refl (is_at key_of key address (length new) r) refl (others_put n rs) other
    where
      by : (b : Bool) → bytes_eq r.name n ≡ b → (a : Bool) → is_at key_of key address (length new) r ≡ a → (key_of (named (λ x. x.name) no_region n rs) ≢ key → named (λ x. x.name) no_region n (put_at key_of key address new rs) ≡ named (λ x. x.name) no_region n rs) →
          key_of (if b then r else named (λ x. x.name) no_region n rs) ≢ key →
          named (λ x. x.name) no_region n (if a then record r { bytes = put r.bytes (address - r.base) new } ∷ rs else r ∷ put_at key_of key address new rs) ≡ (if b then r else named (λ x. x.name) no_region n rs)
      by true e true at rest other' =
          let same : (key_of r == key) ≡ true = (both (key_of r == key) (holds r address (length new)) at).0 in
          let apart : (key_of r == key) ≡ false = ne_eqb (key_of r) key other' in
          cc
      by true e false at rest other' = rw e refl
      by false e true at rest other' = rw e refl
      by false e false at rest other' = rw e (rest other')
