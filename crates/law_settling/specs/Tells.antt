-- What settling leaves untold: nothing at an end that is Running and does not wait for its RNR timer.
use Rattle.std.specs.Prelude.{◌≡◌, true, false, [], Some}
use Rattle.rdma_types.specs.declared.names.ObjName.{ObjName}
use Rattle.protocol.specs.EndWords.{is_running}
use Rattle.protocol.specs.State.{World, Link}
use Rattle.protocol.specs.Settle.{link_at, settled}
use Rattle.packetless_machine.specs.Machine.{Machine}
use Rattle.law_simulation.specs.Stands.{Stands}

-- after settling a live end that is Running and does not wait for its RNR timer has no untold request
abbrev pub SettlingTells : Type 0
SettlingTells =
    (w : World) (m : Machine) → Stands w m → (o : ObjName) (l : Link) → link_at (settled w).world o ≡ Some l → is_running (Some l) ≡ true → l.sender.rnr_wait ≡ false → l.sender.untold ≡ []
