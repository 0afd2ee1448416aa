-- Lists of a pool.
use Rattle.std.specs.Prelude.{ℕ}
use Rattle.page_pool.specs.Pool.{Pool, IsIn}

-- each list that lived lives on
pub record Keeps (old new : Pool) : Type 0 where
  pub lives : (list : ℕ) → IsIn old list → IsIn new list
