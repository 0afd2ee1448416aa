-- What one send leaves of every other end.
use Rattle.std.specs.Prelude.{◌≡◌, ◌≢◌, ◌⊎◌, true, Option, None, Some}
use Rattle.rdma_types.specs.declared.names.ObjName.{ObjName}
use Rattle.protocol.specs.EndWords.{is_paused, is_running}
use Rattle.protocol.specs.Fabric.{pending}
use Rattle.protocol.specs.State.{Link}
use Rattle.protocol.specs.WorldStep.{world_step}
use Rattle.protocol.specs.Settle.{Settling, drained, is_sent, link_at, settle_step, transmit}
use Rattle.packetless_machine.specs.Machine.{Machine}
use Rattle.law_simulation.specs.Stands.{Stands}

-- where an end with the link l has l' later, its requester is the same, or it is in Error, or Paused
pub record IsSpared (l : Link) (r : Option Link) : Type 0 where
  pub link : Link
  pub linked : r ≡ Some link
  pub kept : (link.sender ≡ l.sender) ⊎ (link.ended ≡ true) ⊎ (is_paused link.moving.phase ≡ true)

-- where nothing is pending, an end that runs sends a piece, and what comes of it is drained: every other end keeps its requester,
-- or goes to Error, or is Paused
abbrev pub SendingSpares : Type 0
SendingSpares =
    (s : Settling) (m : Machine) (o z : ObjName) (l : Link) → Stands s.world m → pending s.world.sent ≡ None → is_running (link_at s.world o) ≡ true → is_sent (world_step s.world (transmit o)).answer ≡ true →
    z ≢ o → link_at s.world z ≡ Some l → IsSpared l (link_at (drained (settle_step s (transmit o))).world z)
