use Rattle.std.proofs.Common.{ap, sym, subst}
use Rattle.std.specs.Prelude.{IfSome, map}
use Rattle.std.specs.Result.{result_ok}
use Rattle.context_core.specs.Context.{Holding, context_in, end_of}
use Rattle.context_core.specs.Links.{IsConnectedAt}
use Rattle.context_core.proofs.ConnectedEnds.{connected-places, refused-none}
use Rattle.context_core.proofs.state.ContextState.connected_place.Goals as goal

pub returns-clause-none : goal.returns-clause-none
unfolding context_in
returns-clause-none c = λ pool n.
    refused-none c.connected.result _ c.ok.result c.ok.ensures.value (c.connected.ensures.refused pool c.self.inside.queues.entries (context_in pool n c.args.self.now) (ap {A = Holding} (λ h. map (end_of pool h.queues) h.ends) (sym c.self.view_is)))

pub returns-clause-place : goal.returns-clause-place
returns-clause-place c = λ pool n.
    subst (λ r. IfSome r (λ i. IsConnectedAt (context_in pool n c.args.self.now) c.args.name i)) (sym c.ok.ensures.value)
    (subst (λ (h : Holding). IfSome (result_ok c.connected.result) (λ i. IsConnectedAt (context_in pool n h) c.args.name i)) c.self.view_is
    (connected-places pool n _ c.args.name c.connected.result c.connected.ensures.place c.connected.ensures.there c.connected.ensures.linked))
