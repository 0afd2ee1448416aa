use Rattle.std.proofs.Common.{◌≤◌, take}
use Rattle.thread_plan.specs.Seen.{AreSeen}
use Rattle.thread_plan.proofs.findings.Findings.see_worker.Given as goal

abbrev pub invariant-loop-receipt : goal.invariant-loop-receipt
invariant-loop-receipt l = AreSeen l.worker l.made (take l.receipt-index l.held) l.fn.self l.self × (l.made ≤ l.adds)
