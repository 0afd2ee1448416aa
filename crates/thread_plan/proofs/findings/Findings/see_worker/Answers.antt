use Rattle.std.proofs.Common.{arith}
use Rattle.thread_plan.proofs.Seen.{seen_more, seen_none}
use Rattle.thread_plan.proofs.findings.Findings.see_worker.Goals as goal

pub loop-receipt-init : goal.loop-receipt-init
loop-receipt-init c = (seen_none _ _, omega arith)

pub loop-receipt-preserved : goal.loop-receipt-preserved
loop-receipt-preserved c = (seen_more c.args.worker c.loop-receipt.made c.in-Some.next c.loop-receipt.receipt-index c.args.held.now c.receipt-item.result c.args.self.now c.loop-receipt.self c.see.new.self (omega arith) c.receipt-item.is c.loop-receipt.invariant.0 c.in-Some.ensures.seen, c.in-Some.ensures.most)
