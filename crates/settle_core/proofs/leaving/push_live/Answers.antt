use Rattle.std.proofs.Common.{arith, ◌≤◌, length}
use Rattle.settle_core.specs.Left.{left_view}
use Rattle.settle_core.proofs.LeftEnds.{left-all, left-more, left-none}
use Rattle.settle_core.proofs.leaving.push_live.Goals as goal

pub loop-end-init : goal.loop-end-init
loop-end-init c = left-none left_view c.args.left.now.items c.args.ends.now

pub loop-end-preserved : goal.loop-end-preserved
loop-end-preserved c =
    left-more left_view c.args.ends.now c.loop-end.end-index c.end-item.result c.args.left.now.items c.loop-end.left.items c.push_end.new.left.items c.loop-end-test.true c.end-item.is c.loop-end.invariant c.in_ok-push_end.ensures

pub returns : goal.returns
returns c = let all : length c.args.ends.now ≤ c.loop-end.end-index = omega (arith, c.loop-end-test.false) in left-all left_view c.args.ends.now c.loop-end.end-index c.args.left.now.items c.loop-end.left.items all c.loop-end.invariant
