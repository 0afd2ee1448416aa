use Rattle.std.proofs.Common.{sym, ◌∙◌}
use Rattle.context_core.proofs.ContextReaders.{count-is}
use Rattle.context_core.proofs.state.ContextState.end_count.Goals as goal

pub returns : goal.returns
returns c = rw (← c.self.view_is) (λ pool n. c.len.ensures.len ∙ sym (count-is pool n _))
