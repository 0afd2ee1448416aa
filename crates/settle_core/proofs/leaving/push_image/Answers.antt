use Rattle.std.proofs.Common.{arith, ◌≤◌, ◌++◌, ◌∙◌, ap, length}
use Rattle.std.specs.Prelude.{flat_map}
use Rattle.protocol.specs.Settle.{left_image}
use Rattle.settle_core.proofs.LeftEnds.{left-all, left-more, left-none}
use Rattle.settle_core.proofs.leaving.push_image.Goals as goal

pub loop-end-init : goal.loop-end-init
loop-end-init c = left-none (left_image c.args.image.now.name) c.args.left.now.items c.as_slice-ends.result.now

pub loop-end-preserved : goal.loop-end-preserved
loop-end-preserved c =
    left-more (left_image c.args.image.now.name) c.as_slice-ends.result.now c.loop-end.end-index c.end-item.result c.args.left.now.items c.loop-end.left.items c.push_carried.new.left.items c.loop-end-test.true c.end-item.is c.loop-end.invariant c.in_ok-push_carried.ensures

pub returns : goal.returns
returns c =
    let all : length c.as_slice-ends.result.now ≤ c.loop-end.end-index = omega (arith, c.loop-end-test.false) in
    left-all (left_image c.args.image.now.name) c.as_slice-ends.result.now c.loop-end.end-index c.args.left.now.items c.loop-end.left.items all c.loop-end.invariant
    ∙ ap (λ z. c.args.left.now.items ++ flat_map (left_image c.args.image.now.name) z) c.as_slice-ends.ensures
