-- What settling leaves to be delivered, sent again and waited for: nothing but ends that wait for a receive without limit.
use Rattle.std.specs.Prelude.{◌≡◌, true, false, Some, None}
use Rattle.rdma_types.specs.declared.names.ObjName.{ObjName}
use Rattle.protocol.specs.EndWords.{is_running}
use Rattle.protocol.specs.Fabric.{pending}
use Rattle.protocol.specs.State.{World, Link}
use Rattle.protocol.specs.Settle.{link_at, settled}
use Rattle.packetless_machine.specs.Machine.{Machine}
use Rattle.law_simulation.specs.Stands.{Stands}

-- nothing is pending; a live end that is Running waits for its RNR timer only with rnr 7, and where it does not wait it has
-- nothing in flight
pub record IsAtRest (w : World) : Type 0 where
  pub drained : pending w.sent ≡ None
  pub endless : (o : ObjName) (l : Link) → link_at w o ≡ Some l → is_running (Some l) ≡ true → l.sender.rnr_wait ≡ true → l.terms.rnr ≡ 7
  pub landed : (o : ObjName) (l : Link) → link_at w o ≡ Some l → is_running (Some l) ≡ true → l.sender.rnr_wait ≡ false → l.sender.next ≡ l.sender.una

-- settling leaves a world at rest
abbrev pub SettlingRests : Type 0
SettlingRests = (w : World) (m : Machine) → Stands w m → IsAtRest (settled w).world
