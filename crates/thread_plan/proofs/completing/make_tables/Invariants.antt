use Rattle.std.proofs.Common.{◌≡◌, replicate}
use Rattle.thread_plan.proofs.completing.make_tables.Given as goal

abbrev pub invariant-loop : goal.invariant-loop
invariant-loop l = l.tables.items ≡ replicate l.counter (replicate l.plan.adds 0)
