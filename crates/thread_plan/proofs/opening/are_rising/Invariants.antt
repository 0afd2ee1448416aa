use Rattle.thread_plan.proofs.SameBooks.{AreRising}
use Rattle.thread_plan.proofs.opening.are_rising.Given as goal

abbrev pub invariant-loop-k : goal.invariant-loop-k
invariant-loop-k l = AreRising l.k l.books
