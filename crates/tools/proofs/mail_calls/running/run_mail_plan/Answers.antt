use Rattle.std.proofs.Common.{subst}
use Rattle.tools.specs.Endings.{IsWritten}
use Rattle.tools.proofs.MailEnding.{ended_done}
use Rattle.tools.proofs.mail_calls.running.run_mail_plan.Goals as goal

pub returns-in-Ok : goal.returns-in-Ok
returns-in-Ok g c = ended_done c.args.plan.now (g.K.Sink.held c.args.output.now) (g.K.Sink.held c.end_with.new.output) (g.K.Sink.faults c.args.output.now) (g.K.Sink.faults c.end_with.new.output) c.in-Ok.text.items c.end_with.result c.in-Ok.ensures
    (subst (λ t. IsWritten (g.K.Sink.held c.args.output.now) (g.K.Sink.held c.end_with.new.output) (g.K.Sink.faults c.args.output.now) (g.K.Sink.faults c.end_with.new.output) t 0 c.end_with.result) c.as_slice.ensures.value c.end_with.ensures)
