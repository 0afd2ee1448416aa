-- The numbers of ends are forgotten one after another.
use Rattle.std.proofs.Common.{arith, ◌∙◌, ◌≤◌, ◌<◌, sym, ap, length}
use Rattle.std.specs.Prelude.{nat_eq}
use Rattle.std.proofs.lemmas.List.{take_all}
use Rattle.indexmap.specs.IndexMap.{get}
use Rattle.context_core.specs.Context.{context_in}
use Rattle.device_core.specs.Index.{without_numbers}
use Rattle.device_core.specs.Leaving.{gone_in}
use Rattle.device_core.proofs.Leavings.{forgets-nothing, gone-next}
use Rattle.device_core.proofs.leaving.drop_ends.Goals as goal

pub loop-place-init : goal.loop-place-init
loop-place-init c pool k = sym (forgets-nothing k (get nat_eq c.args.index.now k))

pub loop-place-preserved : goal.loop-place-preserved
loop-place-preserved c pool k =
    let within : c.loop-place.place < length (context_in pool c.args.name c.args.state.now).ends = omega (arith, c.loop-place-test.true, c.end_count-place-end.ensures pool) in
    gone-next (context_in pool c.args.name c.args.state.now).ends c.loop-place.place within k (get nat_eq c.args.index.now k) (get nat_eq c.loop-place.index k) (get nat_eq c.drop_end.new.index k) (c.loop-place.invariant pool k) (λ e at. c.drop_end.ensures pool e at k)

pub returns : goal.returns
returns c pool k =
    let all : length (context_in pool c.args.name c.args.state.now).ends ≤ c.loop-place.place = omega (arith, c.loop-place-test.false, c.end_count-place-end.ensures pool) in
    c.loop-place.invariant pool k ∙ ap (λ es. without_numbers (gone_in es) k (get nat_eq c.args.index.now k)) (take_all c.loop-place.place (context_in pool c.args.name c.args.state.now).ends all)
