-- Which lists hold which pages.
use Rattle.std.specs.Prelude.{ℕ, ◌≡◌, ◌*◌, ◌≤◌, ⊤, List, [], ◌∷◌, All, length, map, sum, sum_by, take, Option, Some, None, slice_index, slice_index_or}
use Rattle.std.specs.List.{flat_map}
use Rattle.std.specs.Arc.{arc_value}
use Rattle.std.specs.declared.vec.Vec.{Vec}
use Rattle.std.specs.declared.alloc.Global.{Global}
use Rattle.rdma_types.specs.Memory.{cut}
use Rattle.page_pool.specs.Store.{Store, IsSound, times}
use Rattle.page_pool.specs.Pool.{Pool}
use Rattle.page_pool.specs.declared.page.Page.{Page}
use Rattle.page_pool.specs.declared.page.Page.TheVariants.{Own, Shared}

-- the bytes of a page of the pool's own
unfoldable pub page_at : List ℕ → ℕ → List ℕ
page_at bytes page = cut (4096 * page) 4096 bytes

-- the bytes of a page of a list
abbrev pub page_bytes : List ℕ → Page → List ℕ
page_bytes bytes (Own number) = page_at bytes number
page_bytes bytes (Shared page) = arc_value page

-- the number of a page of the pool's own
abbrev pub own_number : Page → List ℕ
own_number (Own number) = number ∷ []
own_number (Shared page) = []

-- a shared page is whole
abbrev pub IsWholePage : Page → Type 0
IsWholePage (Own number) = ⊤
IsWholePage (Shared page) = length (arc_value page) ≡ 4096

-- the same page of the pool's own, or a page that is shared with the same bytes
abbrev pub IsSamePage : Page → Page → Type 0
IsSamePage (Own number) (Own other) = other ≡ number
IsSamePage (Shared page) (Shared other) = arc_value other ≡ arc_value page
IsSamePage (Own number) (Shared other) = ⊥
IsSamePage (Shared page) (Own other) = ⊥

-- what stands at the number of a list
abbrev pub slot : List (Option (Vec Page Global)) → ℕ → Option (Vec Page Global)
slot lists list = slice_index_or lists list None

-- the pages of a list
abbrev pub pages : Option (Vec Page Global) → List Page
pages None = []
pages (Some list) = list.items

-- the numbers of the pages of some pages that are the pool's own
unfoldable pub own_numbers : List Page → List ℕ
own_numbers list = flat_map own_number list

-- whole pages that are all shared, and have the first of these bytes in a row
pub record AreShared (bytes : List ℕ) (list : List Page) : Type 0 where
  pub none_own : own_numbers list ≡ []
  pub whole : All IsWholePage list
  pub first : (all : List ℕ) → flat_map (page_bytes all) list ≡ take (4096 * length list) bytes

-- the bytes of a list
abbrev pub shown : List ℕ → Option (Vec Page Global) → Option (List ℕ)
shown bytes None = None
shown bytes (Some list) = Some (flat_map (page_bytes bytes) list.items)

-- how often a page of the pool's own stands in all lists
unfoldable pub held_by : ℕ → List (Option (Vec Page Global)) → ℕ
held_by page lists = sum_by (λ list. times page (own_numbers (pages list))) lists

-- the pages of all lists that are the pool's own
unfoldable pub own_in_all : List (Option (Vec Page Global)) → ℕ
own_in_all lists = sum_by (λ list. length (own_numbers (pages list))) lists

-- the pages of all lists
unfoldable pub in_all : List (Option (Vec Page Global)) → ℕ
in_all lists = sum_by (λ list. length (pages list)) lists

-- the pool of some pages and lists
abbrev pub pool_of : Store → List (Option (Vec Page Global)) → Pool
pool_of frames lists = record { pages = length frames.holders; lists = map (shown frames.bytes) lists }

-- each page of the pool's own has as many holders as lists have it
pub record IsLedger (frames : Store) (lists : List (Option (Vec Page Global))) : Type 0 where
  pub sound : IsSound frames
  pub counted : (page : ℕ) → held_by page lists ≡ slice_index frames.holders page
  pub total : sum frames.holders ≡ own_in_all lists
  pub whole : (list : ℕ) → All IsWholePage (pages (slot lists list))

-- and the lists have no more pages than there are, of which this many
pub record IsPool (frames : Store) (lists : List (Option (Vec Page Global))) (held : ℕ) : Type 0 where
  pub ledger : IsLedger frames lists
  pub counted : held ≡ in_all lists
  pub room : held ≤ length frames.holders
