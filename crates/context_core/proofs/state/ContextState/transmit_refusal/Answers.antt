use Rattle.std.proofs.Common.{◌≡◌, ◌∙◌, false, subst, sym, true}
use Rattle.std.specs.Prelude.{IsSome, Some}
use Rattle.rdma_types.specs.declared.answers.Refusal.TheVariants.{NoSuch, BadState}
use Rattle.rdma_types.specs.Causes.{first_cause}
use Rattle.protocol.specs.Refusals.{connected_causes}
use Rattle.context_core.specs.Context.{Holding, context_in}
use Rattle.context_core.proofs.ConnectedEnds.{refused-as}
use Rattle.context_core.proofs.state.ContextState.transmit_refusal.Goals as goal

pub returns-then-contains_key : goal.returns-then-contains_key
returns-then-contains_key c = λ pool n some.
    let refused = subst (λ (h : Holding). IsSome (first_cause (connected_causes (context_in pool n h) c.args.name))) (sym c.self.view_is) some in
    subst (λ (h : Holding). first_cause (connected_causes (context_in pool n h) c.args.name) ≡ Some BadState) c.self.view_is
    (refused-as pool n (record { domains = c.self.inside.domains.keys; regions = c.self.inside.regions; queues = c.self.inside.queues.entries; ends = c.self.inside.ends.entries }) c.args.name true (sym c.if-contains_key.true ∙ c.contains_key.ensures) refused)

pub returns-else-contains_key : goal.returns-else-contains_key
returns-else-contains_key c = λ pool n some.
    let refused = subst (λ (h : Holding). IsSome (first_cause (connected_causes (context_in pool n h) c.args.name))) (sym c.self.view_is) some in
    subst (λ (h : Holding). first_cause (connected_causes (context_in pool n h) c.args.name) ≡ Some NoSuch) c.self.view_is
    (refused-as pool n (record { domains = c.self.inside.domains.keys; regions = c.self.inside.regions; queues = c.self.inside.queues.entries; ends = c.self.inside.ends.entries }) c.args.name false (sym c.if-contains_key.false ∙ c.contains_key.ensures) refused)
