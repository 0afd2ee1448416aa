use Rattle.tools.specs.Threads.{IsThreadsText}
use Rattle.tools.proofs.ThreadEnding.{ended}
use Rattle.tools.proofs.thread_calls.running.run_plan.Goals as goal

pub returns : goal.returns
returns g c = ended (IsThreadsText c.args.plan.now) (g.K.Sink.held c.args.output.now) (g.K.Sink.held c.tell.new.output) (g.K.Sink.faults c.args.output.now) (g.K.Sink.faults c.tell.new.output) c.text_of-told.result c.tell.result c.text_of-told.ensures c.tell.ensures
