-- What is untold at an end that has nothing to send and nothing in flight.
use Rattle.std.specs.Prelude.{◌≡◌, true, false, [], Some}
use Rattle.rdma_types.specs.declared.names.ObjName.{ObjName}
use Rattle.protocol.specs.EndWords.{is_running}
use Rattle.protocol.specs.State.{World, Link}
use Rattle.protocol.specs.WorldStep.{world_step}
use Rattle.protocol.specs.Settle.{is_sent, link_at, transmit}
use Rattle.packetless_machine.specs.Machine.{Machine}
use Rattle.law_simulation.specs.Stands.{Stands}

-- an end that runs, does not wait for its RNR timer, has nothing in flight and now sends nothing has no untold request
abbrev pub StoppedIsTold : Type 0
StoppedIsTold =
    (w : World) (m : Machine) (o : ObjName) (l : Link) → Stands w m → link_at w o ≡ Some l → is_running (Some l) ≡ true → l.sender.rnr_wait ≡ false → l.sender.next ≡ l.sender.una →
    is_sent (world_step w (transmit o)).answer ≡ false → l.sender.untold ≡ []
