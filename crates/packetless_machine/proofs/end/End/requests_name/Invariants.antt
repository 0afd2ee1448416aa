use Rattle.std.proofs.Common.{◌≡◌, drop}
use Rattle.std.specs.List.{list_any}
use Rattle.packetless_machine.specs.Verbs.{request_names}
use Rattle.packetless_machine.proofs.end.End.requests_name.Given as goal

abbrev pub invariant-loop-r : goal.invariant-loop-r
invariant-loop-r l = list_any (request_names l.key) (drop l.r-index l.untold) ≡ list_any (request_names l.key) l.untold
