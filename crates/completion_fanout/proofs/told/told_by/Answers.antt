use Rattle.std.proofs.Common.{rules, arith, ◌≡◌, ◌++◌, ◌∙◌}
use Rattle.run_check.specs.Gathered.{polled}
use Rattle.completion_fanout.proofs.Counting.{told_more, told_none}
use Rattle.completion_fanout.proofs.told.told_by.Goals as goal

pub loop-receipt-init : goal.loop-receipt-init
loop-receipt-init c = c.new-completions.ensures.items ∙ told_none

pub loop-receipt-preserved : goal.loop-receipt-preserved
loop-receipt-preserved c =
    let put : c.put_polled.new.completions.items ≡ c.loop-receipt.completions.items ++ polled c.receipt-item.result.outcome.answer = search rules in
    told_more c.args.held.now c.loop-receipt.receipt-index c.receipt-item.result _ _ (omega arith) c.receipt-item.is c.loop-receipt.invariant put
