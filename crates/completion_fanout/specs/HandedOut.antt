-- A run in which threads drain completions and hand them to several consumers (this project's choice).
use Rattle.std.specs.Prelude.{◌≡◌, ℕ, ◌≤◌, true, List, [], length, slice_get, Some}
use Rattle.rdma_types.specs.declared.requests.Completion.{Completion}
use Rattle.order_rules.specs.declared.Receipt.{Receipt}
use Rattle.run_check.specs.Gathered.{drained_by}
use Rattle.thread_plan.specs.declared.plan.ThreadPlan.{ThreadPlan}
use Rattle.thread_plan.specs.Planned.{IsPlanned}
use Rattle.completion_fanout.specs.declared.entry.FanEntry.{FanEntry}
use Rattle.completion_fanout.specs.Fanned.{IsDealt, IsFanned}
use Rattle.completion_fanout.specs.declared.plan.FanPlan.{FanPlan}
use Rattle.completion_fanout.specs.declared.running.FannedRun.{FannedRun}

-- 1 to 4 consumers, 1 to 10,000 additions, and a queue of 1 to 1,024 places
pub record IsFanPlan (plan : FanPlan) : Type 0 where
  pub some_consumers : 1 ≤ plan.consumers
  pub consumers : plan.consumers ≤ 4
  pub some_adds : 1 ≤ plan.adds
  pub adds : plan.adds ≤ 10000
  pub some_capacity : 1 ≤ plan.capacity
  pub capacity : plan.capacity ≤ 1024

-- the number of the drainer among the workers
abbrev pub drainer : ℕ
drainer = 2

-- as many completions as additions were drained by the drainer's polls, in their order
pub record IsDrained (plan : FanPlan) (receipts : List (List Receipt)) (drained : List Completion) : Type 0 where
  pub held : List Receipt
  pub drainer_held : slice_get receipts drainer ≡ Some held
  pub drained_is : drained ≡ drained_by held
  pub all : length drained ≡ plan.adds

-- .. each consumer has a list, each completion was taken by exactly one of them, and none is left
pub record IsHandedOut (plan : FanPlan) (receipts : List (List Receipt)) (drained : List Completion) (taken : List (List FanEntry)) (left : List FanEntry) : Type 0 where
  pub is_drained : IsDrained plan receipts drained
  pub consumers : length taken ≡ plan.consumers
  pub fanned : IsFanned drained taken left
  pub none_left : left ≡ []

-- one worker makes the additions, and nothing moves
abbrev pub one_worker : FanPlan → ThreadPlan
one_worker plan = record { workers = 1; adds = plan.adds; moves = 0 }

-- the run in which the completions came is as planned, and they were handed out, by threads or by the caller; a caller whose own
-- run it is hands entry k to list k mod consumers
pub record IsFannedRun (plan : FanPlan) (f : FannedRun) : Type 0 where
  pub planned : IsPlanned (one_worker plan) drainer f.run.alone f.run
  pub handed : IsHandedOut plan f.run.receipts f.drained f.taken f.left
  pub by_caller : f.run.alone ≡ true → IsDealt plan.consumers f.drained f.taken
