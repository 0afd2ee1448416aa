use Rattle.std.proofs.Common.{◌≡◌, ◌≤◌, ◌*◌, ◌^◌, take}
use Rattle.std.specs.Prelude.{sum_by}
use Rattle.packetless_machine.specs.Machine.{reserved_by}
use Rattle.packetless_machine.proofs.work.reserved.Given as goal

abbrev pub invariant-loop-end : goal.invariant-loop-end
invariant-loop-end l = (l.total ≡ sum_by (reserved_by l.queue) (take l.end-index l.ends)) × (l.total ≤ l.end-index * 2 ^ 66)
