-- None of the last ones is like that.
use Rattle.std.proofs.Common.{◌+◌, ◌≤◌, ℕ}
use Rattle.run_check.specs.Checks.{IsAt}
use Rattle.run_check.proofs.sent.last_like.Given as goal

abbrev pub invariant-loop-i : goal.invariant-loop-i
invariant-loop-i l = (k : ℕ) → l.count ≤ k + l.i → IsAt l.flights l.from l.to l.bytes k → ⊥
