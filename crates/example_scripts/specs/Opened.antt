-- A device with a connected queue pair.
use Rattle.std.specs.Prelude.{ℕ, List, [], ◌∷◌, ◌++◌, None, Some, codes, true, false}
use Rattle.rdma_types.specs.declared.names.Name.{Name}
use Rattle.rdma_types.specs.declared.names.ObjName.{ObjName}
use Rattle.rdma_types.specs.declared.requests.Kind.TheVariants.{Read}
use Rattle.protocol.specs.declared.events.Event.{Event}
use Rattle.protocol.specs.declared.events.Event.TheVariants.{Arrive, Connect, MakeContext, MakeCq, MakeDomain, MakeQp, MakeRegion, PostRecv, PostSend}
use Rattle.protocol.specs.State.{Device}
use Rattle.rdma_types.specs.declared.requests.Address.{Address}

-- 10.0.0.1 and 10.0.0.2 at the port of RoCEv2
abbrev pub one : Address
one = record { ip = 167772161; port = 4791 }

abbrev pub two : Address
two = record { ip = 167772162; port = 4791 }

-- device 2 with nothing on it
abbrev pub new : Device
new = record { id = 2; address = two; qp_count = 0; key_count = 0; contexts = []; husks = [] }

-- context b, and a thing of it
abbrev pub b : Name
b = codes "b"

abbrev pub of_b : List ℕ → ObjName
of_b name = record { context = b; name = name }

-- a region n of so many bytes at address 8192, with keys 02000002 and 02000003, and a queue pair q of number 020001, which
-- is connected to number 010001 and expects packet 100; its own packets begin at 200
abbrev pub opened : ℕ → List Event
opened length =
    MakeContext b
    ∷ MakeDomain (of_b (codes "p"))
    ∷ MakeRegion (of_b (codes "n")) (Some (codes "p")) 8192 length (record { 0 = 15 })
    ∷ MakeCq (of_b (codes "c")) 16
    ∷ MakeQp (of_b (codes "q")) (Some (codes "p")) (Some (codes "c")) (Some (codes "c")) 8 8
    ∷ Connect (of_b (codes "q")) 65537 one (record { mtu = 256; own_start = 200; peer_start = 100; retry = 7; rnr = 7; reads = 4 })
    ∷ []

-- .. where two receives, of 8 bytes at offset 16 and of 4 at offset 32, and a Read of 4 bytes to offset 48 are posted
abbrev pub posted : List Event
posted =
    opened 64
    ++ PostRecv (of_b (codes "q")) (record { id = 8; lkey = 33554434; local = 8208; length = 8 })
    ∷ PostRecv (of_b (codes "q")) (record { id = 9; lkey = 33554434; local = 8224; length = 4 })
    ∷ PostSend (of_b (codes "q")) (record { id = 1; shape = record { kind = Read; length = 4; remote = 8192; rkey = 16777219; imm = None; swap_add = 0; compare = 0 }; lkey = 33554434; local = 8240; signaled = true; fence = false })
    ∷ []

-- .. where the first packet of a message arrived at a region of 1024 bytes
abbrev pub begun : List ℕ → List Event
begun bytes = opened 1024 ++ Arrive one bytes ∷ []
