use Rattle.std.proofs.Common.{sym, ap, ◌∙◌}
use Rattle.std.specs.Option.{option_map}
use Rattle.context_core.proofs.ContextReaders.{keys-told}
use Rattle.context_core.proofs.state.ContextState.keys_at.Goals as goal

pub returns-in_err-head : goal.returns-in_err-head
returns-in_err-head c = rw (← c.self.view_is) (λ pool n. c.from_residual.ensures ∙ (ap (option_map (λ k. k.keys)) (sym c.in_err-head.was) ∙ keys-told pool n _ c.args.place c.at.result c.at.ensures))

pub returns : goal.returns
returns c = rw (← c.self.view_is) (λ pool n. ap (option_map (λ k. k.keys)) (sym c.in_ok-head.was) ∙ keys-told pool n _ c.args.place c.at.result c.at.ensures)
