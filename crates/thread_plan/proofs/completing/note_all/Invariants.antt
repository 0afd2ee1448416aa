use Rattle.std.proofs.Common.{take}
use Rattle.std.specs.Prelude.{count_by}
use Rattle.thread_plan.specs.Planned.{completes}
use Rattle.thread_plan.specs.Tables.{AreRaised}
use Rattle.thread_plan.proofs.completing.note_all.Given as goal

abbrev pub invariant-loop-k : goal.invariant-loop-k
invariant-loop-k l = AreRaised (λ i j. count_by (completes i j) (take l.k l.completions)) l.fn.tables.items l.tables.items
