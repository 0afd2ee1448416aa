-- Completions handed to several consumers: each is taken once, and each consumer's places rise (this project's choice).
use Rattle.std.specs.Prelude.{◌≡◌, ℕ, ◌+◌, ◌<◌, ◌==◌, ◌%◌, List, [], ◌∷◌, ◌++◌, length, map, flat_map, if◌then◌else◌, slice_get, Some}
use Rattle.rdma_types.specs.declared.requests.Completion.{Completion}
use Rattle.completion_fanout.specs.declared.entry.FanEntry.{FanEntry}

-- the places of some entries
abbrev pub places : List FanEntry → List ℕ
places entries = map (λ e. e.place) entries

-- how often a number stands in a list
abbrev pub times : ℕ → List ℕ → ℕ
times k [] = 0
times k (x ∷ xs) = (if x == k then 1 else 0) + times k xs

-- a later number is greater
abbrev pub IsRising : List ℕ → Type 0
IsRising xs = (i j x y : ℕ) → slice_get xs i ≡ Some x → slice_get xs j ≡ Some y → i < j → x < y

-- each entry has the completion that stands at its place
abbrev pub AreOf : List Completion → List FanEntry → Type 0
AreOf drained entries = (i : ℕ) (e : FanEntry) → slice_get entries i ≡ Some e → slice_get drained e.place ≡ Some e.completion

-- what all consumers took, and what is left
abbrev pub all_entries : List (List FanEntry) → List FanEntry → List FanEntry
all_entries taken left = flat_map (λ es. es) taken ++ left

-- each completion that was drained stands exactly once in all lists together, under its place and as it was; nothing else
-- stands there; and in each list the places rise
pub record IsFanned (drained : List Completion) (taken : List (List FanEntry)) (left : List FanEntry) : Type 0 where
  pub same : AreOf drained (all_entries taken left)
  pub once : (k : ℕ) → k < length drained → times k (places (all_entries taken left)) ≡ 1
  pub rising : (i : ℕ) (es : List FanEntry) → slice_get taken i ≡ Some es → IsRising (places es)
  pub left_rising : IsRising (places left)

-- entry k goes to list k mod consumers: the entries of list i, where the first of these has the place k
unfoldable pub dealt_to : ℕ → ℕ → ℕ → List Completion → List FanEntry
dealt_to consumers i k [] = []
dealt_to consumers i k (c ∷ cs) = if k % consumers == i then record { place = k; completion = c } ∷ dealt_to consumers i (k + 1) cs else dealt_to consumers i (k + 1) cs

-- the caller hands out what was drained itself, to that many lists
pub record IsDealt (consumers : ℕ) (drained : List Completion) (taken : List (List FanEntry)) : Type 0 where
  pub lists : length taken ≡ consumers
  pub each : (i : ℕ) (es : List FanEntry) → slice_get taken i ≡ Some es → es ≡ dealt_to consumers i 0 drained
