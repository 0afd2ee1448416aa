use Rattle.std.proofs.Common.{◌≡◌, ◌++◌}
use Rattle.law_simulation.specs.Named.{tells}
use Rattle.trace_record.proofs.trace_steps.learning.tell.Given as goal

abbrev pub invariant-loop-told : goal.invariant-loop-told
invariant-loop-told l = l.steps.items ≡ l.initial.steps.items ++ tells l.q l.told
