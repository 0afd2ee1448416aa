use Rattle.run_traces.proofs.First.{first-is-named}
use Rattle.run_traces.proofs.Judged.{verdicts-are-right}
use Rattle.run_traces.proofs.Read.{traces-are-read}
use Rattle.run_traces.proofs.trace_audit.laws.audits_are_right.Goals as goal

pub returns-clause-verdicts : goal.returns-clause-verdicts
returns-clause-verdicts c = verdicts-are-right

pub returns-clause-traces : goal.returns-clause-traces
returns-clause-traces c = traces-are-read

pub returns-clause-bad_lines : goal.returns-clause-bad_lines
returns-clause-bad_lines c = first-is-named
