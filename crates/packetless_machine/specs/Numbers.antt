-- The packet numbers that belong to the requests of an end. No step of the machine looks at them.
use Rattle.std.specs.Prelude.{ℕ, ◌+◌, ◌/◌}
use Rattle.rdma_types.specs.Spans.{first_number, next_landing}
use Rattle.packetless_machine.specs.Machine.{End}

-- the number of the packet that acts next at the peer
unfoldable pub due : End → ℕ
due e = first_number e.posted e.mtu e.acted + e.into / e.mtu

-- the first number that the owner does not know to be in place
unfoldable pub oldest : End → ℕ
oldest e = first_number e.posted e.mtu e.told + e.known / e.mtu

-- the first number whose Read or atomic has not landed
unfoldable pub barrier : End → ℕ
barrier e = next_landing e.posted e.mtu (oldest e)
