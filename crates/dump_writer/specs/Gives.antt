-- Bytes that are handed out from the beginning of those that are left.
use Rattle.std.specs.Prelude.{ℕ, ◌≡◌, ◌≤◌, List, ◌++◌, length, take, drop}

-- so many bytes went from what was left to the beginning of the buffer
pub record Gives (old new before after : List ℕ) (count : ℕ) : Type 0 where
  pub room : count ≤ length before
  pub had : count ≤ length old
  pub bytes : after ≡ take count old ++ drop count before
  pub left : new ≡ drop count old
