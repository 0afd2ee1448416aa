-- Pages with the counts of their holders.
use Rattle.std.specs.Prelude.{ℕ, zero, suc, ◌≡◌, ◌-◌, ◌*◌, ◌<◌, ◌≤◌, ◌^◌, ◌==◌, if◌then◌else◌, List, [], ◌∷◌, ◌++◌, length, sum, count_by, replicate, slice_index_or}

-- the bytes of all pages, one page after another, and how many hold each page
pub record Store : Type 0 where
  pub bytes : List ℕ
  pub holders : List ℕ

-- that many zeros
unfoldable pub blank : ℕ → List ℕ
blank n = replicate n 0

-- how often a page stands in a list of pages
unfoldable pub times : ℕ → List ℕ → ℕ
times page pages = count_by (λ p. p == page) pages

-- how many pages nobody holds
unfoldable pub idle_pages : List ℕ → ℕ
idle_pages holders = count_by (λ h. h == 0) holders

-- 1 where the page is there and nobody holds it
unfoldable pub idle : ℕ → List ℕ → ℕ
idle page holders = if slice_index_or holders page 1 == 0 then 1 else 0

-- each page has 4,096 bytes, and there are no more holders than pages
pub record IsSound (s : Store) : Type 0 where
  pub whole : length s.bytes ≡ 4096 * length s.holders
  pub few : length s.holders < 2 ^ 32
  pub within : sum s.holders ≤ length s.holders

-- a list, and zeros up to a length
unfoldable pub padded : ℕ → List ℕ → List ℕ
padded n front = front ++ replicate (n - length front) 0

-- that many pages from a first one on, the first one last
unfoldable pub later_pages : ℕ → ℕ → List ℕ
later_pages first zero = []
later_pages first (suc n) = later_pages (suc first) n ++ first ∷ []

-- the pages to draw from, the next one last: those that are not made, below the stock
unfoldable pub waiting : List ℕ → ℕ → List ℕ → List ℕ
waiting holders pages stock = later_pages (length holders) (pages - length holders) ++ stock

-- the first pages are made, with room for the others
pub record IsMade (bytes holders : List ℕ) (pages bytes_room holders_room : ℕ) : Type 0 where
  pub whole : length bytes ≡ 4096 * length holders
  pub within : length holders ≤ pages
  pub bytes_fit : 4096 * pages ≤ bytes_room
  pub holders_fit : pages ≤ holders_room

-- the stock has each page that nobody holds once, and there are no more holders than pages
pub record IsStock (bytes holders stock : List ℕ) (capacity : ℕ) : Type 0 where
  pub whole : length bytes ≡ 4096 * length holders
  pub few : length holders < 2 ^ 32
  pub within : sum holders ≤ length holders
  pub once : (page : ℕ) → times page stock ≡ idle page holders
  pub counted : length stock ≡ idle_pages holders
  pub room : length holders ≤ capacity
