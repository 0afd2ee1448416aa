-- What a pass over the receipts finds (this project's choice).
use Rattle.std.specs.Prelude.{◌≡◌, ℕ, ◌+◌, Bool, List, [], ◌∷◌, count_by, replicate, slice_get, Some}
use Rattle.order_rules.specs.declared.Receipt.{Receipt}
use Rattle.run_check.specs.Gathered.{drained_by, polled}
use Rattle.thread_plan.specs.declared.findings.Findings.{Findings}
use Rattle.thread_plan.specs.declared.plan.ThreadPlan.{ThreadPlan}
use Rattle.thread_plan.specs.declared.tallies.Tallies.{Tallies}
use Rattle.thread_plan.specs.Planned.{AreAdded, AreWorking, IsWorking, accepted_in, additions, all_adds, completed, completes, is_accepted, restores_b, stops_b, tally}
use Rattle.thread_plan.specs.Tables.{AreOnes, AreRaised, IsNextMade}

-- each tally rose by the number of receipts that pass its test
pub record AreTallied (by : (Receipt → Bool) → ℕ) (old new : Tallies) : Type 0 where
  pub accepted : new.accepted ≡ old.accepted + by is_accepted
  pub stopped : new.stopped ≡ old.stopped + by stops_b
  pub restored : new.restored ≡ old.restored + by restores_b

-- what is found before the first receipt
pub record IsNothing (plan : ThreadPlan) (f : Findings) : Type 0 where
  pub tallies : f.tallies ≡ record { accepted = 0; stopped = 0; restored = 0 }
  pub tables : f.tables.items ≡ replicate plan.workers (replicate plan.adds 0)

-- a receipt of a worker is of what was planned where `made` additions of it are accepted before and `next` after it; it is
-- tallied, and its completions are noted
pub record IsSeen (worker made : ℕ) (r : Receipt) (next : ℕ) (old new : Findings) : Type 0 where
  pub working : IsWorking r
  pub added : IsNextMade worker made r next
  pub tallied : AreTallied (λ test. count_by test (r ∷ [])) old.tallies new.tallies
  pub noted : AreRaised (λ i j. count_by (completes i j) (polled r.outcome.answer)) old.tables.items new.tables.items

-- the same of receipts of a worker of which so many are of accepted additions, from number 1 on
pub record AreSeen (worker made : ℕ) (held : List Receipt) (old new : Findings) : Type 0 where
  pub working : (k : ℕ) (r : Receipt) → slice_get held k ≡ Some r → IsWorking r
  pub added : accepted_in held ≡ additions worker 1 made
  pub tallied : AreTallied (λ test. count_by test held) old.tallies new.tallies
  pub noted : AreRaised (λ i j. count_by (completes i j) (drained_by held)) old.tables.items new.tables.items

-- the same of the receipts of all workers, with all additions of each
pub record AreAllSeen (plan : ThreadPlan) (receipts : List (List Receipt)) (old new : Findings) : Type 0 where
  pub working : AreWorking receipts
  pub added : AreAdded plan receipts
  pub tallied : AreTallied (λ test. tally test receipts) old.tallies new.tallies
  pub noted : AreRaised (λ i j. completed i j receipts) old.tables.items new.tables.items

-- as much was found as was planned
pub record HasAll (plan : ThreadPlan) (f : Findings) : Type 0 where
  pub accepted : f.tallies.accepted ≡ all_adds plan
  pub stopped : f.tallies.stopped ≡ plan.moves
  pub restored : f.tallies.restored ≡ plan.moves
  pub once : AreOnes f.tables.items
