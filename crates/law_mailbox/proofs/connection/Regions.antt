-- Places in a region that the opening made.
use Rattle.std.proofs.Common.{arith, ◌≡◌, ℕ, ◌+◌, ◌-◌, ◌≤◌, length, true, refl, ap, le-leb}
use Rattle.rdma_types.specs.Memory.{cut, holds}
use Rattle.rdma_types.specs.Objects.{Region}
use Rattle.law_mailbox.specs.Kept.{IsRegion}

module _ (r : Region) (base size rights key : ℕ) (is : IsRegion r base size rights key) where
  -- it holds bytes at an offset of its base
  pub region_holds : (address offset n : ℕ) → address ≡ base + offset → offset + n ≤ length r.bytes → holds r address n ≡ true
  unfolding holds
  region_holds address offset n e within =
      let begins = is.begins in
      let long = is.long in
      let whole = is.whole in
      rw (le-leb r.base address (omega (arith, begins, e)), le-leb (address + n) (r.base + r.length) (omega (arith, begins, long, whole, e, within))) refl

  pub region_offset : (address offset : ℕ) → address ≡ base + offset → address - r.base ≡ offset
  region_offset address offset e = let begins = is.begins in omega (arith, begins, e)

  pub region_cut : (address offset n : ℕ) → address ≡ base + offset → cut (address - r.base) n r.bytes ≡ cut offset n r.bytes
  region_cut address offset n e = ap (λ (x : ℕ). cut x n r.bytes) (region_offset address offset e)
