use Rattle.std.proofs.Common.{◌∙◌}
use Rattle.context_core.proofs.ContextReaders.{place-is}
use Rattle.context_core.proofs.state.ContextState.place_of_end.Goals as goal

pub returns : goal.returns
returns c = rw (← c.self.view_is) (λ pool n. c.get_index_of.ensures.index ∙ place-is pool n _ c.args.name)
