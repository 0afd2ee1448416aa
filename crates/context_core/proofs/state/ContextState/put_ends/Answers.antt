use Rattle.context_core.proofs.ContextFromImage.{goes-begin, goes-on, goes-whole, item-there, moves-both}
use Rattle.context_core.proofs.state.ContextState.put_ends.Goals as goal

pub loop-end-init : goal.loop-end-init
loop-end-init c = goes-begin c.args.pool.now c.args.image.now c.args.self.now c.requires.is c.requires.part c.requires.empty

pub put_end-requires-clause-next : goal.put_end-requires-clause-next
put_end-requires-clause-next c = item-there c.args.image.now.ends c.as_slice-end-items.result.now c.loop-end.end-index _ c.end-item.result c.as_slice-end-items.ensures c.loop-end-test.true c.end-item.is c.loop-end.invariant.count

pub loop-end-preserved : goal.loop-end-preserved
loop-end-preserved c = goes-on c.args.pool.now c.loop-end.pool c.put_end.new.pool c.args.image.now c.args.self.now c.loop-end.self c.put_end.new.self c.loop-end.end-index c.loop-end.invariant c.in_ok-put_end.ensures.is c.in_ok-put_end.ensures.moves c.in_ok-put_end.ensures.part c.in_ok-put_end.ensures.more

pub returns-in_err-put_end-clause-moves : goal.returns-in_err-put_end-clause-moves
returns-in_err-put_end-clause-moves c = moves-both c.args.pool.now c.loop-end.pool c.put_end.new.pool c.args.self.now c.loop-end.self c.put_end.new.self c.loop-end.invariant.moves c.in_err-put_end.ensures.moves

pub returns-clause-part : goal.returns-clause-part
returns-clause-part c = goes-whole c.args.pool.now c.loop-end.pool c.args.image.now c.args.self.now c.loop-end.self c.as_slice-end-items.result.now c.loop-end.end-index c.as_slice-end-items.ensures c.loop-end.invariant c.loop-end-test.false c.loop-end.auto.end-index-end
