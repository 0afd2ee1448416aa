use Rattle.std.proofs.Common.{◌∙◌}
use Rattle.context_core.proofs.EndReaders.{paused-told}
use Rattle.context_core.proofs.state.ContextState.has_paused.Goals as goal

pub returns : goal.returns
returns c = rw (← c.self.view_is) (λ pool n. c.any_paused.ensures ∙ paused-told pool n _)
