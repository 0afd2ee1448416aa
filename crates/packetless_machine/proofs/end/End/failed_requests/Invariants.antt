use Rattle.std.proofs.Common.{◌≡◌, ◌++◌, drop}
use Rattle.packetless_machine.specs.Steps.{failed_requests}
use Rattle.packetless_machine.proofs.end.End.failed_requests.Given as goal

abbrev pub invariant-loop-r : goal.invariant-loop-r
invariant-loop-r l = l.all.items ++ failed_requests l.number l.next (drop l.r-index l.untold) ≡ failed_requests l.number l.fn.status l.untold
