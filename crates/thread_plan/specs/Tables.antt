-- What the parts of the check of a planned run find out (this project's choice).
use Rattle.std.specs.Prelude.{◌≡◌, ℕ, ◌+◌, ◌<◌, true, false, List, Option, Some, None, slice_get}
use Rattle.std.specs.Option.{option_and_then}
use Rattle.rdma_types.specs.declared.requests.Completion.{Completion}
use Rattle.order_rules.specs.declared.Receipt.{Receipt}
use Rattle.order_rules.specs.Openings.{adds}
use Rattle.thread_plan.specs.Planned.{is_accepted, is_success_of}

-- after a receipt so many additions of a worker are accepted: one more, if the receipt is of its next one, or as many, if it
-- is of no accepted addition
pub record IsNextMade (worker made : ℕ) (r : Receipt) (next : ℕ) : Type 0 where
  pub accepted : is_accepted r ≡ true → (r.event ≡ adds worker (made + 1)) × (next ≡ made + 1)
  pub other : is_accepted r ≡ false → next ≡ made

-- ---- tables of the additions that were completed

-- each number of a table rose by that of its addition: place k is that of addition k + 1
abbrev pub IsRaised : (ℕ → ℕ) → List ℕ → List ℕ → Type 0
IsRaised by old new = (k n : ℕ) → slice_get old k ≡ Some n → slice_get new k ≡ Some (n + by (k + 1))

-- place k of table w
abbrev pub number_at : List (List ℕ) → ℕ → ℕ → Option ℕ
number_at tables w k = option_and_then (λ table. slice_get table k) (slice_get tables w)

-- each number of all tables rose by that of its addition: table w is that of worker w + 1
abbrev pub AreRaised : (ℕ → ℕ → ℕ) → List (List ℕ) → List (List ℕ) → Type 0
AreRaised by old new = (w k n : ℕ) → number_at old w k ≡ Some n → number_at new w k ≡ Some (n + by (w + 1) (k + 1))

-- every number is 1
abbrev pub AreOnes : List (List ℕ) → Type 0
AreOnes tables = (w : ℕ) (table : List ℕ) (k n : ℕ) → slice_get tables w ≡ Some table → slice_get table k ≡ Some n → n ≡ 1

-- the place of the table of the worker at whose end a completion is, among so many tables; none where there is none, or where
-- its status is not 0
abbrev pub TellsTable : Completion → ℕ → Option ℕ → Type 0
TellsTable c count None = (w : ℕ) → w < count → is_success_of (w + 1) c ≡ false
TellsTable c count (Some w) = (w < count) × (is_success_of (w + 1) c ≡ true)
