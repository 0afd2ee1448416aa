use Rattle.std.proofs.Common.{◌≡◌, ◌≤◌, ◌+◌, length, sum_by, take}
use Rattle.settle_core.specs.Loads.{view_numbers}
use Rattle.settle_core.proofs.rounds.load.Given as goal

abbrev pub invariant-loop-end : goal.invariant-loop-end
invariant-loop-end l = (l.load ≡ sum_by view_numbers (take l.end-index l.ends) + l.end-index + 1) × (l.end-index ≤ length l.ends)
