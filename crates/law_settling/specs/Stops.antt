-- The sends of one end in one round stop by themselves.
use Rattle.std.specs.Prelude.{◌≡◌, true, false, None}
use Rattle.rdma_types.specs.declared.names.ObjName.{ObjName}
use Rattle.protocol.specs.EndWords.{is_running}
use Rattle.protocol.specs.Fabric.{pending}
use Rattle.protocol.specs.WorldStep.{world_step}
use Rattle.protocol.specs.Settle.{Settling, is_sent, link_at, sends_all, transmit}
use Rattle.packetless_machine.specs.Machine.{Machine}
use Rattle.law_simulation.specs.Stands.{Stands}

-- where nothing is pending, an end that runs sends until the answer is not Sent: the fuel is not used up
abbrev pub SendingStops : Type 0
SendingStops =
    (s : Settling) (m : Machine) (o : ObjName) → Stands s.world m → pending s.world.sent ≡ None → is_running (link_at s.world o) ≡ true →
    is_sent (world_step (sends_all s o).world (transmit o)).answer ≡ false
