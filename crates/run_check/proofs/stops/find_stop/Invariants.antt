-- No earlier stop hands out this image.
use Rattle.std.proofs.Common.{◌<◌, ℕ}
use Rattle.run_check.specs.Checks.{IsStopOf}
use Rattle.run_check.proofs.stops.find_stop.Given as goal

abbrev pub invariant-loop-i : goal.invariant-loop-i
invariant-loop-i l = (k : ℕ) → k < l.i → IsStopOf l.receipts l.stops l.image k → ⊥
