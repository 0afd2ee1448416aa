-- What readers of a world tell (this project's choice).
use Rattle.std.specs.Prelude.{ℕ, Option}
use Rattle.rdma_types.specs.declared.names.Name.{Name}
use Rattle.protocol.specs.Readers.{context_name}
use Rattle.protocol.specs.State.{World, device_at}

-- the name of live context i of the device with an id
abbrev pub name_on : World → ℕ → ℕ → Option Name
name_on w id i = context_name (device_at w id) i
