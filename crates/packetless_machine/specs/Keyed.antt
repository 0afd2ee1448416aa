-- Keys and rights, as the program names them.
use Rattle.std.specs.Prelude.{ℕ, List, Option, Some, None}
use Rattle.rdma_types.specs.declared.names.Name.{Name}
use Rattle.rdma_types.specs.Objects.{Region}
use Rattle.rdma_types.specs.Memory.{NoRight, LocalWrite, RemoteWrite, RemoteRead, RemoteAtomic, Right, local_key, remote_key}
use Rattle.packetless_machine.specs.declared.region.KeyKind.{KeyKind}
use Rattle.packetless_machine.specs.declared.region.KeyKind.TheVariants.{Local, Remote}
use Rattle.packetless_machine.specs.declared.region.Need.{Need}
use Rattle.packetless_machine.specs.declared.region.Need.TheVariants as needs
use Rattle.packetless_machine.specs.declared.region.KeyedRange.{KeyedRange}
use Rattle.packetless_machine.specs.Machine.{Machine}
use Rattle.packetless_machine.specs.Steps.{putting}

-- the key of a region that a kind of key means
abbrev pub key_by : KeyKind → Region → ℕ
key_by Local = local_key
key_by Remote = remote_key

-- the right that a use of memory needs
abbrev pub right_of : Need → Right
right_of needs.Nothing = NoRight
right_of needs.LocalWrite = LocalWrite
right_of needs.RemoteWrite = RemoteWrite
right_of needs.RemoteRead = RemoteRead
right_of needs.RemoteAtomic = RemoteAtomic

-- bytes are put at a place of context c, if there is one
abbrev pub put_maybe : Machine → Name → Option KeyedRange → List ℕ → Machine
put_maybe m c None new = m
put_maybe m c (Some p) new = putting m c (key_by p.kind) p.key p.address new
