use Rattle.std.proofs.Common.{◌≡◌, ◌++◌, length}
use Rattle.script_lang.specs.Scripts.{ended_lines}
use Rattle.run_traces.specs.Written.{answer_text}
use Rattle.run_traces.proofs.trace_writer.answers.put_lines.Given as goal

abbrev pub invariant-loop-line : goal.invariant-loop-line
invariant-loop-line l = l.out.items ++ answer_text (ended_lines l.rest) ≡ l.initial.out.items ++ answer_text (ended_lines l.text)

abbrev pub decreases-loop-line : goal.decreases-loop-line
decreases-loop-line l = length l.rest
