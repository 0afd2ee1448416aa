-- A run of threads as it was planned: its order, its additions and their completions, its moves, and its word (this
-- project's choice).
use Rattle.std.specs.Prelude.{◌≡◌, ℕ, zero, suc, ◌+◌, ◌*◌, ◌≤◌, ◌==◌, ◌&&◌, max, nat_le, Bool, true, false, if◌then◌else◌, List, [], ◌∷◌, length, map, filter, count_by, codes, bytes_eq, slice_get, Some}
use Rattle.rdma_types.specs.declared.answers.Answer.{Answer}
use Rattle.rdma_types.specs.declared.requests.Completion.{Completion}
use Rattle.rdma_types.specs.declared.requests.WcStatus.{WcStatus}
use Rattle.rdma_types.specs.declared.requests.WcStatus.TheVariants as status
use Rattle.protocol.specs.declared.events.Event.{Event}
use Rattle.protocol.specs.declared.events.Event.TheVariants as event
use Rattle.protocol.specs.WorldStep.{is_done}
use Rattle.order_rules.specs.declared.Receipt.{Receipt}
use Rattle.order_rules.specs.Lines.{Line, entry_of, device_after}
use Rattle.order_rules.specs.Sides.{IsOneSided, is_stopped}
use Rattle.order_rules.specs.Hears.{IsLegalOrder}
use Rattle.order_rules.specs.Openings.{adds, end_number, openings}
use Rattle.order_rules.specs.Work.{accepts, is_addition, lines_with}
use Rattle.order_rules.specs.Bridge.{IsAskable, IsWork, is_work}
use Rattle.run_check.specs.declared.run.Run.{Run}
use Rattle.run_check.specs.declared.run.RunFault.{RunFault}
use Rattle.run_check.specs.declared.run.RunFault.TheVariants as run_fault
use Rattle.run_check.specs.Gathered.{AreHeld, completions_in, drained_by, word_in}
use Rattle.thread_plan.specs.declared.plan.PlanFault.{PlanFault}
use Rattle.thread_plan.specs.declared.plan.PlanFault.TheVariants as plan_fault
use Rattle.thread_plan.specs.declared.plan.ThreadPlan.{ThreadPlan}

-- 1 to 8 workers, 1 to 10,000 additions of each, and at most 8 moves
pub record IsPlan (plan : ThreadPlan) : Type 0 where
  pub some_workers : 1 ≤ plan.workers
  pub workers : plan.workers ≤ 8
  pub some_adds : 1 ≤ plan.adds
  pub adds : plan.adds ≤ 10000
  pub moves : plan.moves ≤ 8

-- all additions
abbrev pub all_adds : ThreadPlan → ℕ
all_adds plan = plan.workers * plan.adds

-- why there is no run as planned, where there is no gathered one
abbrev pub plan_fault_of : RunFault → PlanFault
plan_fault_of (run_fault.Disagree place left right) = plan_fault.NotAsPlanned
plan_fault_of run_fault.OutOfMemory = plan_fault.OutOfMemory

-- ---- receipts

-- how many of the receipts of all workers pass a test
unfoldable pub tally : (Receipt → Bool) → List (List Receipt) → ℕ
tally test [] = 0
tally test (held ∷ more) = count_by test held + tally test more

-- every receipt of every worker is of an event of workers or of the mover, with its fields in their ranges
abbrev pub IsWorking : Receipt → Type 0
IsWorking r = (is_work r.device r.event ≡ true) × IsAskable r.event

abbrev pub AreWorking : List (List Receipt) → Type 0
AreWorking receipts = (w : ℕ) (held : List Receipt) (k : ℕ) (r : Receipt) → slice_get receipts w ≡ Some held → slice_get held k ≡ Some r → IsWorking r

-- ---- additions

-- an accepted addition
abbrev pub is_accepted : Receipt → Bool
is_accepted r = is_addition r.event && is_done r.outcome.answer

-- the accepted additions among some receipts, in their order
abbrev pub accepted_in : List Receipt → List Event
accepted_in held = map (λ r. r.event) (filter is_accepted held)

-- n additions of a worker from number j on
unfoldable pub additions : ℕ → ℕ → ℕ → List Event
additions worker j zero = []
additions worker j (suc n) = adds worker j ∷ additions worker (j + 1) n

-- how many additions a worker is to make; number 0 is the mover, and numbers above are nobody's
abbrev pub adds_of : ThreadPlan → ℕ → ℕ
adds_of plan zero = 0
adds_of plan (suc w) = if nat_le (suc w) plan.workers then plan.adds else 0

-- each worker's additions were accepted once each, in their order, and no others
abbrev pub AreAdded : ThreadPlan → List (List Receipt) → Type 0
AreAdded plan receipts = (w : ℕ) (held : List Receipt) → slice_get receipts w ≡ Some held → accepted_in held ≡ additions w 1 (adds_of plan w)

-- ---- completions

-- status 0
abbrev pub is_success : WcStatus → Bool
is_success status.Success = true
is_success other = false

-- a completion at the end of worker i with status 0
abbrev pub is_success_of : ℕ → Completion → Bool
is_success_of i c = c.qp == end_number i && is_success c.status

-- .. of addition j
abbrev pub completes : ℕ → ℕ → Completion → Bool
completes i j c = is_success_of i c && c.id == j

-- how many completions of it the receipts of all workers have
unfoldable pub completed : ℕ → ℕ → List (List Receipt) → ℕ
completed i j [] = 0
completed i j (held ∷ more) = count_by (completes i j) (drained_by held) + completed i j more

-- each addition was completed once, with status 0
abbrev pub AreCompleted : ThreadPlan → List (List Receipt) → Type 0
AreCompleted plan receipts = (i j : ℕ) → 1 ≤ i → i ≤ plan.workers → 1 ≤ j → j ≤ plan.adds → completed i j receipts ≡ 1

-- ---- moves

-- a stop of the context b that was made
abbrev pub is_stop_of_b : Event → Answer → Bool
is_stop_of_b (event.Stop name alone) a = bytes_eq name (codes "b") && is_stopped a
is_stop_of_b other a = false

-- a restore of the context b that was made
abbrev pub is_restore_of_b : Event → Answer → Bool
is_restore_of_b (event.Restore image) a = bytes_eq image.name (codes "b") && is_done a
is_restore_of_b other a = false

abbrev pub stops_b : Receipt → Bool
stops_b r = is_stop_of_b r.event r.outcome.answer

abbrev pub restores_b : Receipt → Bool
restores_b r = is_restore_of_b r.event r.outcome.answer

-- ---- the whole

-- as many additions were accepted, and as often was b stopped and restored, as planned
pub record AreAsMany (plan : ThreadPlan) (receipts : List (List Receipt)) : Type 0 where
  pub accepted : tally is_accepted receipts ≡ all_adds plan
  pub stops : tally stops_b receipts ≡ plan.moves
  pub restores : tally restores_b receipts ≡ plan.moves

-- what was done: all events are those of workers and of the mover; each addition was accepted once and completed once with
-- status 0, and no other was accepted; and b was stopped and restored that many times
pub record IsDone (plan : ThreadPlan) (receipts : List (List Receipt)) : Type 0 where
  pub working : AreWorking receipts
  pub many : AreAsMany plan receipts
  pub added : AreAdded plan receipts
  pub completed_once : AreCompleted plan receipts

-- a run as it was planned, whose last list is that of the worker with that number; `alone` says whose run it is. Its lines
-- are a world order from the openings, of events that workers and the mover ask for. The order is one-sided, and what
-- applications hear in it the packetless machine may answer. The receipts are those of the lines, with all that was planned;
-- and the word and the number of completions are that of all additions
pub record IsPlanned (plan : ThreadPlan) (last : ℕ) (alone : Bool) (run : Run) : Type 0 where
  pub lines : List Line
  pub work : IsWork plan.workers lines
  pub one_sided : IsOneSided (openings plan.workers) lines
  pub legal : IsLegalOrder plan.workers lines
  pub accepted : lines_with accepts lines ≡ all_adds plan
  pub entries_are : run.order ≡ map entry_of lines
  pub lists : length run.receipts ≡ last + 1
  pub held : AreHeld run.receipts lines
  pub done : IsDone plan run.receipts
  pub word_is : run.word ≡ word_in (map (λ d. device_after (openings plan.workers) lines d.id) (openings plan.workers))
  pub completions_are : run.completions ≡ completions_in run.receipts
  pub word : run.word ≡ all_adds plan
  pub completions : run.completions ≡ all_adds plan
  pub whose : run.alone ≡ alone

-- the run of one caller, where the completions are polled by that number
abbrev pub IsRunAlone : ThreadPlan → ℕ → Run → Type 0
IsRunAlone plan poller run = IsPlanned plan (max plan.workers poller) true run

-- the threads' run, or the caller's own
abbrev pub IsRunByThreads : ThreadPlan → Run → Type 0
IsRunByThreads plan run = IsPlanned plan plan.workers run.alone run
