use Rattle.std.proofs.Common.{◌≡◌, ◌<◌, ℕ, List, slice_get, Some}
use Rattle.thread_plan.proofs.completing.are_full.Given as goal

abbrev pub invariant-loop-i : goal.invariant-loop-i
invariant-loop-i l = (w : ℕ) (table : List ℕ) (k n : ℕ) → w < l.i → slice_get l.tables w ≡ Some table → slice_get table k ≡ Some n → n ≡ 1
