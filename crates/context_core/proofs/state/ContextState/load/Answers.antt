use Rattle.std.proofs.Common.{sym, subst, ap, ◌∙◌, refl, arith}
use Rattle.std.specs.Prelude.{drop, length}
use Rattle.std.specs.Result.{result_err}
use Rattle.std.proofs.lemmas.Result.{err_from_is_err_and}
use Rattle.rdma_types.specs.declared.answers.Answer.TheVariants as answer
use Rattle.memory_keys.specs.Regions.{regions_of}
use Rattle.protocol.specs.DeviceStep.{answers, loads}
use Rattle.context_core.specs.Context.{Holding, IsContext, context_in}
use Rattle.context_core.proofs.RegionStores.{loads-is, range-spot, whole}
use Rattle.context_core.proofs.state.ContextState.load.Goals as goal

pub returns-in_err-spot-clause-refused : goal.returns-in_err-spot-clause-refused
unfolding context_in
returns-in_err-spot-clause-refused c = λ n.
    let p = err_from_is_err_and c.from_residual.result c.from_residual.ensures.1 in
    rw (p.1, p.2) (ap result_err (sym c.in_err-spot.was) ∙ c.range.ensures.refused c.args.pool.now (context_in c.args.pool.now n c.args.self.now) (ap {A = Holding} (λ h. regions_of c.args.pool.now h.regions) (sym c.self.view_is)))

pub returns-in_err-bytes-clause-refused : goal.returns-in_err-bytes-clause-refused
unfolding context_in
returns-in_err-bytes-clause-refused c = λ n.
    let p = err_from_is_err_and c.from_residual-in_err-bytes.result c.from_residual-in_err-bytes.ensures.1 in
    rw (p.1, p.2) (ap result_err (sym c.in_ok-spot.was) ∙ c.range.ensures.refused c.args.pool.now (context_in c.args.pool.now n c.args.self.now) (ap {A = Holding} (λ h. regions_of c.args.pool.now h.regions) (sym c.self.view_is)))

pub returns-clause-refused : goal.returns-clause-refused
unfolding context_in
returns-clause-refused c = λ n. ap result_err (sym c.in_ok-spot.was) ∙ c.range.ensures.refused c.args.pool.now (context_in c.args.pool.now n c.args.self.now) (ap {A = Holding} (λ h. regions_of c.args.pool.now h.regions) (sym c.self.view_is))

pub load-requires-clause-held : goal.load-requires-clause-held
load-requires-clause-held c = (subst (IsContext c.args.pool.now) (sym c.self.view_is) c.requires.is).is.held

pub load-requires-clause-spot : goal.load-requires-clause-spot
load-requires-clause-spot c = range-spot c.self.inside.regions c.args.name c.args.at c.args.length c.in_ok-spot.spot c.in_ok-spot.ensures.range

pub returns-clause-loaded : goal.returns-clause-loaded
unfolding loads context_in
returns-clause-loaded c = rw (← c.self.view_is) (λ n d. ap (λ bs. answers d (answer.Bytes bs)) (loads-is c.args.pool.now c.self.inside.regions (context_in c.args.pool.now n (record { domains = c.self.inside.domains.keys; regions = c.self.inside.regions; queues = c.self.inside.queues.entries; ends = c.self.inside.ends.entries })) c.args.name c.args.at c.args.length c.in_ok-spot.spot refl c.in_ok-spot.ensures.range ∙ (sym c.load.ensures ∙ (sym (whole c.load.new.out (drop (length c.load.new.out) c.in_ok-bytes.bytes.items) c.in_ok-bytes.bytes.len (omega (arith, c.load.auto.out, c.deref_mut.ensures.len))) ∙ sym c.new.ensures))))
