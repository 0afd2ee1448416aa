-- Ends are noted one after another.
use Rattle.std.proofs.Common.{arith, ◌∙◌, sym, ap}
use Rattle.std.specs.Prelude.{nat_eq}
use Rattle.std.proofs.lemmas.List.{take_all}
use Rattle.indexmap.specs.IndexMap.{get}
use Rattle.protocol.specs.declared.images.EndImage.{EndImage}
use Rattle.device_core.specs.Coming.{numbers_of_ends}
use Rattle.device_core.specs.Leaving.{placed}
use Rattle.device_core.proofs.Brought.{placed-more}
use Rattle.device_core.proofs.Leavings.{placed-none}
use Rattle.device_core.proofs.coming.put_ends.Goals as goal

pub loop-place-init : goal.loop-place-init
loop-place-init c = record { room = omega (arith, c.requires); said = λ k. sym (placed-none c.args.name 0 k (get nat_eq c.args.index.now k)) }

pub loop-place-preserved : goal.loop-place-preserved
loop-place-preserved c = record {
  room = omega (arith, c.loop-place.invariant.room, c.put_location.ensures.spare);
  said = λ k. placed-more (λ (e : EndImage). e.number) c.args.name c.args.ends.now c.loop-place.place c.loop-place-test.true _ k (get nat_eq c.args.index.now k) (get nat_eq c.loop-place.index k) (get nat_eq c.put_location.new.index k) (c.loop-place.invariant.said k) (c.put_location.ensures.puts k);
}

pub put_location-requires : goal.put_location-requires
put_location-requires c = omega (arith, c.loop-place.invariant.room, c.loop-place-test.true)

pub returns : goal.returns
returns c k = c.loop-place.invariant.said k ∙ ap (λ es. placed c.args.name 0 (numbers_of_ends es) k (get nat_eq c.args.index.now k)) (take_all c.loop-place.place c.args.ends.now c.loop-place-test.false)
