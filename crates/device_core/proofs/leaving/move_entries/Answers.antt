-- Entries are noted one after another.
use Rattle.std.proofs.Common.{◌∙◌, sym, ap, subst, take, get_or}
use Rattle.std.specs.Prelude.{IsSome, nat_eq}
use Rattle.std.proofs.lemmas.List.{take_all}
use Rattle.indexmap.specs.IndexMap.{get}
use Rattle.device_core.specs.Index.{numbers_in}
use Rattle.device_core.specs.Leaving.{placed}
use Rattle.device_core.proofs.Leavings.{placed-next, placed-none, placed-some}
use Rattle.device_core.proofs.leaving.move_entries.Goals as goal

pub loop-place-init : goal.loop-place-init
loop-place-init c k = sym (placed-none c.args.name 0 k (get nat_eq c.args.index.now k))

pub loop-place-preserved : goal.loop-place-preserved
loop-place-preserved c k = placed-next c.args.name c.args.entries.now c.loop-place.place c.loop-place-test.true _ k (get nat_eq c.args.index.now k) (get nat_eq c.loop-place.index k) (get nat_eq c.move_location.new.index k) (c.loop-place.invariant k) (c.move_location.ensures k)

pub returns : goal.returns
returns c k = c.loop-place.invariant k ∙ ap (λ es. placed c.args.name 0 (numbers_in es) k (get nat_eq c.args.index.now k)) (take_all c.loop-place.place c.args.entries.now c.loop-place-test.false)

pub move_location-requires : goal.move_location-requires
move_location-requires c = let k = (get_or c.args.entries.now c.loop-place.place (record { number = 0; peer = 0; moves = 0 })).number in subst IsSome (sym (c.loop-place.invariant k)) (placed-some c.args.name 0 (numbers_in (take c.loop-place.place c.args.entries.now)) k (get nat_eq c.args.index.now k) (c.requires c.loop-place.place _ c.loop-place-test.true))
