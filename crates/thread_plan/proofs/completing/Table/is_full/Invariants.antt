use Rattle.std.proofs.Common.{◌≡◌, ◌<◌, ℕ, slice_get, Some}
use Rattle.thread_plan.proofs.completing.Table.is_full.Given as goal

abbrev pub invariant-loop-k : goal.invariant-loop-k
invariant-loop-k l = (i n : ℕ) → i < l.k → slice_get l.self i ≡ Some n → n ≡ 1
