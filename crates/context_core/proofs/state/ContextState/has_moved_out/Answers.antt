use Rattle.std.proofs.Common.{◌∙◌}
use Rattle.context_core.proofs.EndReaders.{out-told}
use Rattle.context_core.proofs.state.ContextState.has_moved_out.Goals as goal

pub returns : goal.returns
returns c = rw (← c.self.view_is) (λ pool n. c.any_moved_out.ensures ∙ out-told pool n _)
