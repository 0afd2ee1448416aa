use Rattle.run_traces.proofs.Loop.{found-audits}
use Rattle.run_traces.proofs.trace_audit.auditing.audit.Goals as goal

pub returns : goal.returns
returns c = found-audits c.args.trace.now c.find.result c.find.ensures
