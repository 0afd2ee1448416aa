use Rattle.packetless_machine.specs.Counted.{IsPassed}
use Rattle.packetless_machine.proofs.passed.passed_on.Given as goal

abbrev pub invariant-loop-i : goal.invariant-loop-i
invariant-loop-i l = IsPassed l.offers l.i l.below
