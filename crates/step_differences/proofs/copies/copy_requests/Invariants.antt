use Rattle.std.proofs.Common.{◌≡◌, take}
use Rattle.step_differences.proofs.copies.copy_requests.Given as goal

abbrev pub invariant-loop-p : goal.invariant-loop-p
invariant-loop-p l = l.copies.items ≡ take l.p-index l.posted
