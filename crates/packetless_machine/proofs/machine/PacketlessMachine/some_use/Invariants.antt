use Rattle.std.proofs.Common.{◌≡◌, drop}
use Rattle.std.specs.List.{list_any}
use Rattle.packetless_machine.specs.Verbs.{is_used_by}
use Rattle.packetless_machine.proofs.machine.PacketlessMachine.some_use.Given as goal

abbrev pub invariant-loop-end : goal.invariant-loop-end
invariant-loop-end l = list_any (is_used_by l.self l.region) (drop l.end-index l.ends) ≡ list_any (is_used_by l.self l.region) l.ends
