use Rattle.std.proofs.Common.{◌∙◌}
use Rattle.context_core.proofs.CreatedEnds.{causes-are}
use Rattle.context_core.proofs.state.ContextState.qp_refusal.Goals as goal

pub returns : goal.returns
returns c = rw (← c.self.view_is) (λ pool n d is e. c.refusal.ensures is.is.few_queues ∙ causes-are pool n d _ c.args.new.now c.args.number e)
