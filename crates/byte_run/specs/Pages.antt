-- Bytes in pages.
use Rattle.std.specs.Prelude.{ℕ, ◌≡◌, ◌*◌, ◌≤◌, List, [], length, All, Option, Some, None}
use Rattle.std.specs.List.{flat_map}
use Rattle.std.specs.Arc.{arc_value}
use Rattle.std.specs.declared.sync.Arc.{Arc}
use Rattle.std.specs.declared.vec.Vec.{Vec}

-- the bytes of the pages in order
abbrev pub joined : {A : Type 0} → List (Arc (List ℕ) A) → List ℕ
joined = flat_map arc_value

-- each page has 4,096 bytes
abbrev pub ArePages : {A : Type 0} → List (Arc (List ℕ) A) → Type 0
ArePages = All (λ page. length (arc_value page) ≡ 4096)

-- the pages hold that many bytes
pub record IsRun {A : Type 0} (pages : List (Arc (List ℕ) A)) (count : ℕ) : Type 0 where
  pub even : ArePages pages
  pub room : count ≤ 4096 * length pages

-- the pages in a list that may be missing
abbrev pub pages_in : {X A : Type 0} → Option (Arc (Vec X A) A) → List X
pages_in None = []
pages_in (Some pages) = (arc_value pages).items
