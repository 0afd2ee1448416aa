-- Why an end is left waiting after settling: it lacks a receive at its partner.
use Rattle.std.specs.Prelude.{◌≡◌, true, Some}
use Rattle.rdma_types.specs.declared.names.ObjName.{ObjName}
use Rattle.protocol.specs.EndWords.{is_running}
use Rattle.protocol.specs.State.{World, Link}
use Rattle.protocol.specs.Settle.{link_at, settled}
use Rattle.packetless_machine.specs.Machine.{Machine}
use Rattle.law_simulation.specs.Quiet.{lacks_receive}
use Rattle.law_simulation.specs.Stands.{Stands}

-- after settling an end that runs and waits for its RNR timer lacks a receive: its rnr is 7, and its first untold request is current,
-- needs a receive and finds none unused
abbrev pub SettlingWants : Type 0
SettlingWants =
    (w : World) (m m' : Machine) → Stands w m → Stands (settled w).world m' → (o : ObjName) (l : Link) → link_at (settled w).world o ≡ Some l →
    is_running (Some l) ≡ true → l.sender.rnr_wait ≡ true → lacks_receive m' o ≡ true
