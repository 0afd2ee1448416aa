use Rattle.std.proofs.Common.{◌∙◌, ap, true}
use Rattle.transport.specs.declared.move_core.Phase.TheVariants as phase
use Rattle.end_completions.specs.Completing.{listed}
use Rattle.endpoint_core.proofs.Ended.{listed-used}
use Rattle.endpoint_core.proofs.end.EndLink.flush.Goals as goal

pub returns-clause-used : goal.returns-clause-used
returns-clause-used c = ap listed c.cut.ensures.receive ∙ listed-used c.args.self.now.responder.receiver.progress

pub returns-clause-link : goal.returns-clause-link
returns-clause-link c = ap (λ r. record c.args.self.now { ended = true; requester = c.flush_requests_at.new.requester; responder = r; moves = record c.args.self.now.moves { phase = phase.Running } }) c.cut.ensures.idle
