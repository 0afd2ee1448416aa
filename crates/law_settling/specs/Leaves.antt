-- What settling leaves: a quiet world, and a list of its ends with untold requests and the reasons.
use Rattle.std.specs.Prelude.{All}
use Rattle.protocol.specs.Lawful.{IsLawful}
use Rattle.protocol.specs.State.{World}
use Rattle.protocol.specs.Settle.{settled, unfinished}
use Rattle.packetless_machine.specs.Machine.{Machine}
use Rattle.law_simulation.specs.Quiet.{IsQuiet}
use Rattle.law_simulation.specs.Stands.{Stands}

-- after settling a world whose carried images keep the rules, nothing is pending, and the protocol's list names each end with untold
-- requests once, in order, with the first reason that holds
abbrev pub SettlingLeaves : Type 0
SettlingLeaves = (w : World) (m m' : Machine) → All IsLawful w.carried → Stands w m → Stands (settled w).world m' → IsQuiet (settled w).world m' (unfinished (settled w).world)
