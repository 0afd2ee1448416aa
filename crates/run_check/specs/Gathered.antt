-- When the books, the order and the receipts of threads agree: they are one world order (this project's choice).
use Rattle.std.specs.Prelude.{◌≡◌, ◌≢◌, ℕ, ◌+◌, ◌<◌, List, [], ◌∷◌, ◌++◌, length, map, false, slice_get, Some, codes}
use Rattle.rdma_types.specs.declared.answers.Answer.{Answer}
use Rattle.rdma_types.specs.declared.answers.Answer.TheVariants as answer
use Rattle.rdma_types.specs.declared.requests.Completion.{Completion}
use Rattle.protocol.specs.declared.events.Event.{Event}
use Rattle.protocol.specs.declared.events.Event.TheVariants as event
use Rattle.rdma_types.specs.Memory.{word_of}
use Rattle.protocol.specs.State.{Device}
use Rattle.protocol.specs.DeviceStep.{device_step}
use Rattle.order_rules.specs.declared.Receipt.{Receipt}
use Rattle.order_rules.specs.declared.OrderEntry.{OrderEntry}
use Rattle.order_rules.specs.Lines.{Line, entry_of, events_on, held_by}
use Rattle.order_rules.specs.Order.{IsWorldOrder}
use Rattle.order_rules.specs.Openings.{in_b}
use Rattle.shared_device.specs.Books.{BookView, device_of, openings_of}
use Rattle.run_check.specs.declared.run.Run.{Run}
use Rattle.run_check.specs.declared.run.RunFault.{RunFault}
use Rattle.run_check.specs.declared.run.RunFault.TheVariants as fault

-- ---- receipts

-- the receipts of the workers 0, 1, 2 and so on are those of the lines: each line's receipt stands in the list of its
-- worker, once, and each list has the order of the lines
pub record AreHeld (receipts : List (List Receipt)) (ls : List Line) : Type 0 where
  pub each_list : (worker : ℕ) (held : List Receipt) → slice_get receipts worker ≡ Some held → held ≡ held_by worker ls
  pub all : (k : ℕ) (l : Line) → slice_get ls k ≡ Some l → l.receipt.worker < length receipts

-- the completions that a poll answers
abbrev pub polled : Answer → List Completion
polled (answer.Polled cs) = cs
polled other = []

-- the completions in some receipts, in their order
unfoldable pub drained_by : List Receipt → List Completion
drained_by [] = []
drained_by (r ∷ rs) = polled r.outcome.answer ++ drained_by rs

-- how many completions stand in all receipts
unfoldable pub completions_in : List (List Receipt) → ℕ
completions_in [] = 0
completions_in (held ∷ more) = length (drained_by held) + completions_in more

-- ---- the word

-- the load of b's word
abbrev pub loads_word : Event
loads_word = event.Load (in_b (codes "n")) 8192 8

-- the number in the bytes that a load answers, and another one where it is refused
abbrev pub word_by : Answer → ℕ → ℕ
word_by (answer.Bytes bytes) other = word_of bytes
word_by a other = other

-- the word on the first of these devices where its load is not refused, and another one where it is refused on all
unfoldable pub word_or : List Device → ℕ → ℕ
word_or [] other = other
word_or (d ∷ ds) other = word_by (device_step d loads_word).outcome.answer (word_or ds other)

-- .. and 0
abbrev pub word_in : List Device → ℕ
word_in ds = word_or ds 0

-- ---- what `gather` says

-- books, order entries and receipts tell of the same lines, and these are a world order
pub record IsGathered (books : List BookView) (entries : List OrderEntry) (receipts : List (List Receipt)) : Type 0 where
  pub lines : List Line
  pub order : IsWorldOrder (openings_of books) lines
  pub journals : (i : ℕ) (b : BookView) → slice_get books i ≡ Some b → b.journal ≡ events_on b.opening.id lines
  pub entries_are : entries ≡ map entry_of lines
  pub held : AreHeld receipts lines

-- Ok of `gather`: all agree, and the run tells them with the word and the number of completions
pub record IsGatheredRun (books : List BookView) (entries : List OrderEntry) (receipts : List (List Receipt)) (run : Run) : Type 0 where
  pub gathered : IsGathered books entries receipts
  pub order : run.order ≡ entries
  pub receipts_are : run.receipts ≡ receipts
  pub word : run.word ≡ word_in (map device_of books)
  pub completions : run.completions ≡ completions_in receipts
  pub threads : run.alone ≡ false

-- why there is no run: two values differ, and this is so; or memory ran out
abbrev pub Tells : Type 0 → RunFault → Type 0
Tells Why (fault.Disagree place left right) = (left ≢ right) × Why
Tells Why fault.OutOfMemory = Unit {0}

-- a disagreement of `gather`: two values differ, and books, entries and receipts tell of no world order
abbrev pub IsDisagreement : List BookView → List OrderEntry → List (List Receipt) → RunFault → Type 0
IsDisagreement books entries receipts = Tells (IsGathered books entries receipts → ⊥)
