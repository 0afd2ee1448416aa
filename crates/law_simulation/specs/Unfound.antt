-- The delivery of a datagram for an end that is not there.
use Rattle.std.specs.Prelude.{◌≡◌, ℕ, ◌-◌, [], slice_get, Some}
use Rattle.protocol.specs.declared.events.WorldEvent.TheVariants.{Deliver}
use Rattle.protocol.specs.Wire.{Packet, packet_of}
use Rattle.protocol.specs.State.{World, Device, Flight}
use Rattle.protocol.specs.DeviceStep.{found_in}
use Rattle.protocol.specs.WorldStep.{device_with}
use Rattle.packetless_machine.specs.Machine.{Machine}
use Rattle.law_simulation.specs.Stands.{Stands}
use Rattle.law_simulation.specs.Named.{FollowsByName}

-- no connected end of the device that datagram k goes to has its number
abbrev pub FindsNoEnd : World → ℕ → Type 0
FindsNoEnd w k =
    (f : Flight) (p : Packet) (d : Device) → slice_get w.sent (k - 1) ≡ Some f → packet_of f.bytes ≡ Some p → device_with w f.to ≡ Some d →
    found_in p.dest d.contexts ≡ []

-- the machine follows each delivery of such a datagram: a husk that has the number answers it, and else nothing happens
abbrev pub FollowsUnfound : Type 0
FollowsUnfound = (k : ℕ) (w : World) (m : Machine) → Stands w m → FindsNoEnd w k → FollowsByName w m (Deliver k)
