use Rattle.std.proofs.Common.{arith}
use Rattle.std.proofs.lemmas.Option.{slice_get-get_or, slice_get_within}
use borrow.Author.Count.{below_more}
use Rattle.run_check.specs.Checks.{IsStopOf}
use Rattle.run_check.proofs.Finders.{not_stop}
use Rattle.run_check.proofs.stops.find_stop.Goals as goal

pub loop-i-preserved : goal.loop-i-preserved
loop-i-preserved c = below_more (λ k. IsStopOf c.args.receipts.now c.args.stops.now c.args.image.now k → ⊥) c.loop-i.i c.loop-i.invariant (not_stop c.args.receipts.now c.args.stops.now c.loop-i.i _ c.args.image.now c.hands_out.result (slice_get-get_or c.args.stops.now c.loop-i.i _ c.loop-i-test.true) c.if-hands_out.false c.hands_out.ensures)

pub returns-clause-none : goal.returns-clause-none
returns-clause-none c = λ _ k stop. (let low = slice_get_within c.args.stops.now k stop.0 stop.1 in c.loop-i.invariant k (omega arith) stop)
