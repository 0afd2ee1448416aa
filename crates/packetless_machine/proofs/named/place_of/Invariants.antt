use Rattle.std.proofs.Common.{◌≡◌, ◌+◌, drop}
use Rattle.packetless_machine.specs.Tables.{place}
use Rattle.packetless_machine.proofs.named.place_of.Given as goal

abbrev pub invariant-loop-i : goal.invariant-loop-i
invariant-loop-i g l = place g.T.Named.named l.name (drop l.i l.items) + l.i ≡ place g.T.Named.named l.name l.items
