use Rattle.std.proofs.Common.{rules, arith, ◌≡◌, ◌+◌, length, take, sym}
use Rattle.run_check.specs.Gathered.{drained_by, polled}
use Rattle.run_check.proofs.Telling.{drained_more, drained_none}
use Rattle.run_check.proofs.counts.drained.Goals as goal

pub loop-receipt-init : goal.loop-receipt-init
loop-receipt-init c = sym drained_none

pub loop-receipt-preserved : goal.loop-receipt-preserved
loop-receipt-preserved c =
    let all : length (drained_by (take (c.loop-receipt.receipt-index + 1) c.args.receipts.now)) ≡ length (drained_by (take c.loop-receipt.receipt-index c.args.receipts.now)) + length (polled c.receipt-item.result.outcome.answer) = drained_more _ _ c.receipt-item.result (omega arith) c.receipt-item.is in
    let more : c.in-Some.more ≡ c.loop-receipt.count + length (polled c.receipt-item.result.outcome.answer) = search rules in
    let before = c.loop-receipt.invariant in
    omega arith
