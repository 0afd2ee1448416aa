-- A pool of pages as its callers see it: lists of bytes by their numbers, and how many pages are free. This project's
-- choice.
use Rattle.std.specs.Int.{div_ceil}
use Rattle.std.specs.Prelude.{ℕ, ◌≡◌, ◌≢◌, ◌-◌, ◌/◌, List, [], length, Option, Some, None, IsSome, unwrap_or, sum_by, slice_index_or}

-- how many pages there are, and the bytes of each list that lives, at its number
pub record Pool : Type 0 where
  pub pages : ℕ
  pub lists : List (Option (List ℕ))

-- the bytes of a list, where it lives
abbrev pub bytes_of : Pool → ℕ → Option (List ℕ)
bytes_of pool list = slice_index_or pool.lists list None

-- the list lives in this pool
abbrev pub IsIn : Pool → ℕ → Type 0
IsIn pool list = IsSome (bytes_of pool list)

-- the bytes of a list
abbrev pub bytes_in : Pool → ℕ → List ℕ
bytes_in pool list = unwrap_or (bytes_of pool list) []

-- how many pages a list has
abbrev pub pages_of : Option (List ℕ) → ℕ
pages_of None = 0
pages_of (Some bytes) = length bytes / 4096

-- the pages of all lists, a page of two lists twice
unfoldable pub held_pages : Pool → ℕ
held_pages pool = sum_by pages_of pool.lists

-- the pages less those of all lists
unfoldable pub free_pages : Pool → ℕ
free_pages pool = pool.pages - held_pages pool

-- this list alone is changed: it has these bytes, or lives no longer
pub record Puts (old new : Pool) (list : ℕ) (bytes : Option (List ℕ)) : Type 0 where
  pub pages : new.pages ≡ old.pages
  pub here : bytes_of new list ≡ bytes
  pub others : (other : ℕ) → other ≢ list → bytes_of new other ≡ bytes_of old other

-- the least number of pages that hold so many bytes
unfoldable pub pages_for : ℕ → ℕ
pages_for count = div_ceil count 4096
