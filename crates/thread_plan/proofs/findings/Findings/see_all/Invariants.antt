use Rattle.std.proofs.Common.{take}
use Rattle.thread_plan.specs.Seen.{AreAllSeen}
use Rattle.thread_plan.proofs.findings.Findings.see_all.Given as goal

abbrev pub invariant-loop-i : goal.invariant-loop-i
invariant-loop-i l = AreAllSeen l.plan (take l.i l.receipts) l.fn.self l.self
