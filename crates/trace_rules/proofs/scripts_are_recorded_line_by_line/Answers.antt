use Rattle.trace_rules.proofs.Played.{begins, ends, goes_on, stops}
use Rattle.trace_rules.proofs.scripts_are_recorded_line_by_line.Goals as goal

pub returns-clause-begins : goal.returns-clause-begins
returns-clause-begins c = begins

pub returns-clause-goes_on : goal.returns-clause-goes_on
returns-clause-goes_on c = goes_on

pub returns-clause-stops : goal.returns-clause-stops
returns-clause-stops c = stops

pub returns-clause-ends : goal.returns-clause-ends
returns-clause-ends c = ends
