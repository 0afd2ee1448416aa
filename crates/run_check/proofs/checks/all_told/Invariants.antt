use Rattle.std.proofs.Common.{◌≡◌, ◌<◌, ℕ, List, length, slice_get, Some}
use Rattle.order_rules.specs.declared.Receipt.{Receipt}
use Rattle.run_check.proofs.checks.all_told.Given as goal

abbrev pub invariant-loop-worker : goal.invariant-loop-worker
invariant-loop-worker l = (w : ℕ) (held : List Receipt) (n : ℕ) → w < l.worker → slice_get l.receipts w ≡ Some held → slice_get l.heads w ≡ Some n → n ≡ length held
