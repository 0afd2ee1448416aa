-- No earlier worker's next receipt is of this entry.
use Rattle.std.proofs.Common.{◌<◌, ℕ}
use Rattle.order_rules.specs.declared.Receipt.{Receipt}
use Rattle.run_check.specs.Checks.{IsHead}
use Rattle.run_check.proofs.checks.find_head.Given as goal

abbrev pub invariant-loop-worker : goal.invariant-loop-worker
invariant-loop-worker l = (w head : ℕ) (r : Receipt) → w < l.worker → IsHead l.receipts l.heads l.entry w head r → ⊥
