use Rattle.std.proofs.Common.{sym, subst}
use Rattle.context_core.specs.Context.{Holding, IsContext, Moves, no_holding}
use Rattle.context_core.proofs.ReleasedContext.{gone-moves, posted-apart, regions-held}
use Rattle.context_core.proofs.state.ContextState.release.Goals as goal

pub give_ends-requires : goal.give_ends-requires
give_ends-requires c = posted-apart c.args.pool.now (record { domains = c.self.inside.domains.keys; regions = c.self.inside.regions; queues = c.self.inside.queues.entries; ends = c.self.inside.ends.entries }) (subst (IsContext c.args.pool.now) (sym c.self.view_is) c.requires)

pub release-requires : goal.release-requires
release-requires c =
    let h : Holding = record { domains = c.self.inside.domains.keys; regions = c.self.inside.regions; queues = c.self.inside.queues.entries; ends = c.self.inside.ends.entries } in
    regions-held {h = h} (subst (IsContext c.args.pool.now) (sym c.self.view_is) c.requires) c.give_ends.ensures

pub returns : goal.returns
returns c =
    let h : Holding = record { domains = c.self.inside.domains.keys; regions = c.self.inside.regions; queues = c.self.inside.queues.entries; ends = c.self.inside.ends.entries } in
    subst (λ x. Moves c.args.pool.now c.release.new.pool x no_holding) c.self.view_is (gone-moves {h = h} (subst (IsContext c.args.pool.now) (sym c.self.view_is) c.requires) c.give_ends.ensures c.release.new.pool c.release.ensures.others c.release.ensures.free)
