use Rattle.std.proofs.Common.{◌≡◌, ◌≤◌, ◌-◌, ◌++◌}
use Rattle.packetless_machine.specs.Machine.{end_of}
use Rattle.law_simulation.specs.Carries.{offers_from}
use Rattle.trace_record.proofs.trace_steps.requests.offer.Given as goal

abbrev pub invariant-loop-piece : goal.invariant-loop-piece
invariant-loop-piece l = record {
  offered : l.steps.items ≡ l.initial.steps.items ++ offers_from l.q (end_of l.machine l.q) l.i l.from (l.piece - l.from);
  within : l.piece - l.from ≤ l.piece-end - l.from;
}
