use Rattle.std.proofs.Common.{◌≡◌, take}
use Rattle.run_check.specs.Gathered.{drained_by}
use Rattle.completion_fanout.proofs.told.told_by.Given as goal

abbrev pub invariant-loop-receipt : goal.invariant-loop-receipt
invariant-loop-receipt l = l.completions.items ≡ drained_by (take l.receipt-index l.held)
