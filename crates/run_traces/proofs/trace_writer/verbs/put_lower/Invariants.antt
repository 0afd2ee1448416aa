use Rattle.std.proofs.Common.{◌≡◌, ◌++◌, take}
use Rattle.std.specs.Prelude.{map}
use Rattle.run_traces.specs.Written.{lower}
use Rattle.run_traces.proofs.trace_writer.verbs.put_lower.Given as goal

abbrev pub invariant-loop-b : goal.invariant-loop-b
invariant-loop-b l = l.out.items ≡ l.initial.out.items ++ map lower (take l.b-index l.word)
