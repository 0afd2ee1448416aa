use Rattle.tools.specs.Fanout.{IsFanoutText}
use Rattle.tools.proofs.ThreadEnding.{ended}
use Rattle.tools.proofs.thread_calls.running.run_fan_plan.Goals as goal

pub returns : goal.returns
returns g c = ended (IsFanoutText c.args.plan.now) (g.K.Sink.held c.args.output.now) (g.K.Sink.held c.tell.new.output) (g.K.Sink.faults c.args.output.now) (g.K.Sink.faults c.tell.new.output) c.fan_text_of-told.result c.tell.result c.fan_text_of-told.ensures c.tell.ensures
