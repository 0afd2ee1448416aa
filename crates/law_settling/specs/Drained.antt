-- What draining leaves.
use Rattle.std.specs.Prelude.{◌≡◌, None}
use Rattle.protocol.specs.Fabric.{pending}
use Rattle.protocol.specs.Settle.{Settling, drained}

-- nothing is pending where a settling has drained
abbrev pub DrainingDrains : Type 0
DrainingDrains = (s : Settling) → pending (drained s).world.sent ≡ None
