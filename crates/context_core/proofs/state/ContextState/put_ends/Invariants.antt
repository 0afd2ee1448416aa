use Rattle.context_core.proofs.ContextFromImage.{Goes}
use Rattle.context_core.proofs.state.ContextState.put_ends.Given as goal

abbrev pub invariant-loop-end : goal.invariant-loop-end
invariant-loop-end l = Goes l.initial.pool l.pool l.image l.initial.self l.self l.end-index
