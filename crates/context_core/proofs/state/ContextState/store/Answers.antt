use Rattle.std.proofs.Common.{sym, subst, ap, ◌∙◌}
use Rattle.std.specs.Prelude.{length}
use Rattle.std.specs.Result.{result_err}
use Rattle.std.proofs.lemmas.Result.{err_from_is_err_and}
use Rattle.memory_keys.specs.Regions.{AreHeld, regions_of}
use Rattle.context_core.specs.Context.{Holding, IsContext, context_in}
use Rattle.context_core.proofs.RegionStores.{changes, range-spot, stores-is}
use Rattle.context_core.proofs.AddedObjects.{numbers-in}
use Rattle.context_core.proofs.state.ContextState.store.Goals as goal

pub returns-in_err-spot-clause-refused : goal.returns-in_err-spot-clause-refused
unfolding context_in
returns-in_err-spot-clause-refused c = λ n.
    let p = err_from_is_err_and c.from_residual.result c.from_residual.ensures.1 in
    rw (p.1, p.2) (ap result_err (sym c.in_err-spot.was) ∙ c.range.ensures.refused c.args.pool.now (context_in c.args.pool.now n c.args.self.now) (ap {A = Holding} (λ h. regions_of c.args.pool.now h.regions) (sym c.self.view_is)))

pub returns-clause-refused : goal.returns-clause-refused
unfolding context_in
returns-clause-refused c = λ n. ap result_err (sym c.in_ok-spot.was) ∙ c.range.ensures.refused c.args.pool.now (context_in c.args.pool.now n c.args.self.now) (ap {A = Holding} (λ h. regions_of c.args.pool.now h.regions) (sym c.self.view_is))

pub store-requires-clause-held : goal.store-requires-clause-held
store-requires-clause-held c = (subst (IsContext c.args.pool.now) (sym c.self.view_is) c.requires.is).is.held

pub store-requires-clause-spot : goal.store-requires-clause-spot
store-requires-clause-spot c = range-spot c.self.inside.regions c.args.name c.args.at (length c.args.bytes.now) c.in_ok-spot.spot c.in_ok-spot.ensures.range

pub store-requires-clause-length : goal.store-requires-clause-length
store-requires-clause-length c = sym c.in_ok-spot.ensures.range.length

pub returns-clause-is : goal.returns-clause-is
returns-clause-is c = subst (λ r. IsContext c.store.new.pool (record { domains = c.self.inside.domains.keys; regions = r; queues = c.self.inside.queues.entries; ends = c.self.inside.ends.entries })) (sym c.store.ensures.same) (changes c.args.pool.now c.store.new.pool (record { domains = c.self.inside.domains.keys; regions = c.self.inside.regions; queues = c.self.inside.queues.entries; ends = c.self.inside.ends.entries }) (subst (IsContext c.args.pool.now) (sym c.self.view_is) c.requires.is) c.store.ensures.others (subst (AreHeld c.store.new.pool) c.store.ensures.same c.store.ensures.held) c.store.ensures.free).is

pub returns-clause-moves : goal.returns-clause-moves
returns-clause-moves c = rw (← c.self.view_is) (rw c.store.ensures.same (changes c.args.pool.now c.store.new.pool (record { domains = c.self.inside.domains.keys; regions = c.self.inside.regions; queues = c.self.inside.queues.entries; ends = c.self.inside.ends.entries }) (subst (IsContext c.args.pool.now) (sym c.self.view_is) c.requires.is) c.store.ensures.others (subst (AreHeld c.store.new.pool) c.store.ensures.same c.store.ensures.held) c.store.ensures.free).moves)

pub returns-clause-numbers : goal.returns-clause-numbers
returns-clause-numbers c = rw (← c.self.view_is) (rw c.store.ensures.same (λ n. numbers-in c.store.new.pool n (record { domains = c.self.inside.domains.keys; regions = c.self.inside.regions; queues = c.self.inside.queues.entries; ends = c.self.inside.ends.entries }) ∙ sym (numbers-in c.args.pool.now n (record { domains = c.self.inside.domains.keys; regions = c.self.inside.regions; queues = c.self.inside.queues.entries; ends = c.self.inside.ends.entries }))))

pub returns-clause-stored : goal.returns-clause-stored
returns-clause-stored c = rw (← c.self.view_is) (rw c.store.ensures.same (λ n d. stores-is c.args.pool.now c.store.new.pool n d (record { domains = c.self.inside.domains.keys; regions = c.self.inside.regions; queues = c.self.inside.queues.entries; ends = c.self.inside.ends.entries }) c.args.name c.args.at c.in_ok-spot.spot c.args.bytes.now (changes c.args.pool.now c.store.new.pool (record { domains = c.self.inside.domains.keys; regions = c.self.inside.regions; queues = c.self.inside.queues.entries; ends = c.self.inside.ends.entries }) (subst (IsContext c.args.pool.now) (sym c.self.view_is) c.requires.is) c.store.ensures.others (subst (AreHeld c.store.new.pool) c.store.ensures.same c.store.ensures.held) c.store.ensures.free) c.in_ok-spot.ensures.range (ap (regions_of c.store.new.pool) (sym c.store.ensures.same) ∙ c.store.ensures.regions)))
