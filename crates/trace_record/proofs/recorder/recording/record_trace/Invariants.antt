use Rattle.std.proofs.Common.{length}
use Rattle.trace_record.specs.Recorded.{IsRecordedTo}
use Rattle.trace_record.proofs.recorder.recording.record_trace.Given as goal

abbrev pub invariant-loop-line : goal.invariant-loop-line
invariant-loop-line l = IsRecordedTo l.script l.trace.items l.world l.machine l.number l.lines

abbrev pub decreases-loop-line : goal.decreases-loop-line
decreases-loop-line l = length l.lines
