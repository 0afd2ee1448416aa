use Rattle.std.proofs.Common.{◌≡◌, ◌++◌, length}
use Rattle.script_lang.specs.Printed.{ended}
use Rattle.run_traces.specs.Written.{lowered}
use Rattle.run_traces.proofs.trace_writer.verbs.put_words.Given as goal

abbrev pub invariant-loop-word : goal.invariant-loop-word
invariant-loop-word l = l.out.items ++ ended (lowered l.words.words) ≡ l.initial.out.items ++ ended (lowered l.initial.words.words)

abbrev pub decreases-loop-word : goal.decreases-loop-word
decreases-loop-word l = length l.words.words
