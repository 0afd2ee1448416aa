use Rattle.std.proofs.Common.{rules}
use Rattle.context_core.proofs.EmptyContext.{empty-context, empty-view}
use Rattle.context_core.proofs.state.ContextState.make.Goals as goal

pub returns-clause-view : goal.returns-clause-view
returns-clause-view c = λ pool n. empty-view pool n _ (search rules)

pub returns-clause-is : goal.returns-clause-is
returns-clause-is c = λ pool. empty-context pool _ (search rules)
