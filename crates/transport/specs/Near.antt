-- The number that a wire number means near another, where it lies below 0.
use Rattle.std.specs.Prelude.{ℕ, ◌+◌, ◌%◌, ◌<◌, ◌≤◌, ◌≡◌}
use Rattle.protocol.specs.Numbers.{wire_numbers, half_of_them}

-- the number 0 - below is in the half range about `near`, and its wire number is psn
pub record IsBelowZero (start psn near : ℕ) : Type 0 where
  pub below : ℕ
  pub positive : 0 < below
  pub spelled : (psn + below) % wire_numbers ≡ start % wire_numbers
  pub low : near + below ≤ half_of_them
