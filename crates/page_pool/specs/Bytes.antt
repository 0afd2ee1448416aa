-- The bytes of pages.
use Rattle.std.specs.Prelude.{ℕ, List}

-- the bytes of all pages, one page after another, and for how many bytes there is room
pub record Bytes : Type 0 where
  pub items : List ℕ
  pub room : ℕ
