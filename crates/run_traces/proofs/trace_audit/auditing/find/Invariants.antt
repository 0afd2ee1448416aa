use Rattle.std.proofs.Common.{length}
use Rattle.run_traces.proofs.Loop.{IsFound}
use Rattle.run_traces.proofs.trace_audit.auditing.find.Given as goal

abbrev pub invariant-loop-line : goal.invariant-loop-line
invariant-loop-line l = IsFound l.trace l.rest l.audit l.number

abbrev pub decreases-loop-line : goal.decreases-loop-line
decreases-loop-line l = length l.rest
