use Rattle.std.proofs.Common.{subst, sym}
use Rattle.tools.specs.Endings.{IsWritten}
use Rattle.tools.specs.ThreadEndings.{fault_status, fault_text}
use Rattle.tools.proofs.thread_calls.running.tell_fault.Goals as goal

pub returns-in-OutOfMemory : goal.returns-in-OutOfMemory
returns-in-OutOfMemory g c = subst (λ f. IsWritten (g.K.Sink.held c.args.output.now) (g.K.Sink.held c.end_with.new.output) (g.K.Sink.faults c.args.output.now) (g.K.Sink.faults c.end_with.new.output) (fault_text f) (fault_status f) c.end_with.result) (sym c.in-OutOfMemory.is) c.end_with.ensures

pub returns-in-NotAsPlanned : goal.returns-in-NotAsPlanned
returns-in-NotAsPlanned g c = subst (λ f. IsWritten (g.K.Sink.held c.args.output.now) (g.K.Sink.held c.end_with-in-NotAsPlanned.new.output) (g.K.Sink.faults c.args.output.now) (g.K.Sink.faults c.end_with-in-NotAsPlanned.new.output) (fault_text f) (fault_status f) c.end_with-in-NotAsPlanned.result) (sym c.in-NotAsPlanned.is) c.end_with-in-NotAsPlanned.ensures
