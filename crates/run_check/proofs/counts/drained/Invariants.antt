use Rattle.std.proofs.Common.{◌≡◌, length, take}
use Rattle.run_check.specs.Gathered.{drained_by}
use Rattle.run_check.proofs.counts.drained.Given as goal

abbrev pub invariant-loop-receipt : goal.invariant-loop-receipt
invariant-loop-receipt l = l.count ≡ length (drained_by (take l.receipt-index l.receipts))
