use Rattle.std.proofs.Common.{◌≡◌, ◌++◌}
use Rattle.workload_gen.specs.Plan.{moves_at}
use Rattle.workload_gen.proofs.schedule.put_moves.Given as goal

abbrev pub invariant-loop-k : goal.invariant-loop-k
invariant-loop-k l = l.out.items ≡ l.initial.out.items ++ moves_at l.mix l.number l.k
