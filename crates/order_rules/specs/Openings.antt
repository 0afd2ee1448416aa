-- The devices with which threads begin: those of the usual opening of a script, with a pair of ends for each worker (this
-- project's choice).
use Rattle.std.specs.Prelude.{◌≡◌, ◌≤◌, ℕ, zero, suc, ◌+◌, ◌-◌, ◌*◌, List, [], ◌∷◌, ◌++◌, Some, None, codes, true, false}
use Rattle.rdma_types.specs.declared.answers.Answer.{Answer}
use Rattle.rdma_types.specs.declared.names.Name.{Name}
use Rattle.rdma_types.specs.declared.names.ObjName.{ObjName}
use Rattle.rdma_types.specs.declared.requests.Address.{Address}
use Rattle.rdma_types.specs.declared.requests.Kind.TheVariants as kind
use Rattle.rdma_types.specs.declared.requests.Request.{Request}
use Rattle.rdma_types.specs.declared.requests.Terms.{Terms}
use Rattle.rdma_types.specs.declared.verbs.Verb.{Verb}
use Rattle.protocol.specs.declared.events.Event.{Event}
use Rattle.protocol.specs.declared.events.Event.TheVariants as event
use Rattle.protocol.specs.declared.events.WorldEvent.{WorldEvent}
use Rattle.protocol.specs.declared.events.WorldEvent.TheVariants.{AddDevice, MakeContext, At, Connect}
use Rattle.protocol.specs.State.{Device, World, empty_world}
use Rattle.protocol.specs.Replay.{replay}
use Rattle.protocol.specs.WorldStep.{exchanged, world_after}
use Rattle.law_simulation.specs.Law.{kept}

-- ---- names

-- an object of the context a
abbrev pub in_a : Name → ObjName
in_a name = record { context = codes "a"; name = name }

-- an object of the context b
abbrev pub in_b : Name → ObjName
in_b name = record { context = codes "b"; name = name }

-- the name q1, q2 and so on of the ends of a worker; a worker's number has one digit
abbrev pub end_name : ℕ → Name
end_name i = 113 ∷ (48 + i) ∷ []

-- ---- the opening lines

-- the terms of each connection
abbrev pub opening_terms : Terms
opening_terms = record { mtu = 256; own_start = 100; peer_start = 200; retry = 7; rnr = 7; reads = 4 }

-- a worker's queue pair
abbrev pub makes_end : ObjName → Event
makes_end o = event.MakeQp o (Some (codes "p")) (Some (codes "c")) (Some (codes "c")) 8 1

-- both ends of a worker are made and connected
abbrev pub pair : ℕ → List WorldEvent
pair i =
    At (makes_end (in_a (end_name i)))
    ∷ At (makes_end (in_b (end_name i)))
    ∷ Connect (in_a (end_name i)) (in_b (end_name i)) opening_terms
    ∷ []

-- .. for that many workers from i on
unfoldable pub pairs : ℕ → ℕ → List WorldEvent
pairs i zero = []
pairs i (suc n) = pair i ++ pairs (i + 1) n

-- 10.0.0.1, 10.0.0.2 and so on, at port 4791
abbrev pub address_of : ℕ → Address
address_of id = record { ip = 167772160 + id; port = 4791 }

-- the device with that address
abbrev pub adds_device : ℕ → WorldEvent
adds_device id = AddDevice id (address_of id)

-- three devices; context a on the first and b on the second, each with a domain p, a region of 64 bytes with all rights
-- and a completion queue c of 256 entries; a pair of connected ends for each worker
abbrev pub opening_events : ℕ → List WorldEvent
opening_events workers =
    adds_device 1
    ∷ adds_device 2
    ∷ adds_device 3
    ∷ MakeContext (codes "a") 1
    ∷ MakeContext (codes "b") 2
    ∷ At (event.MakeDomain (in_a (codes "p")))
    ∷ At (event.MakeDomain (in_b (codes "p")))
    ∷ At (event.MakeRegion (in_a (codes "m")) (Some (codes "p")) 4096 64 (record { 0 = 15 }))
    ∷ At (event.MakeRegion (in_b (codes "n")) (Some (codes "p")) 8192 64 (record { 0 = 15 }))
    ∷ At (event.MakeCq (in_a (codes "c")) 256)
    ∷ At (event.MakeCq (in_b (codes "c")) 256)
    ∷ pairs 1 workers

-- the world after them
unfoldable pub opening_world : ℕ → World
opening_world workers = world_after empty_world (opening_events workers)

-- its devices, with which the books open
abbrev pub openings : ℕ → List Device
openings workers = (opening_world workers).devices

-- what applications made and heard while it was made
unfoldable pub opening_verbs : ℕ → List (Verb × Answer)
opening_verbs workers = kept empty_world (opening_events workers)

-- ---- the same devices, each by events of its own

-- a device without contexts
abbrev pub bare_device : ℕ → Device
bare_device id = record { id = id; address = address_of id; qp_count = 0; key_count = 0; contexts = []; husks = [] }

-- the number of worker i's end on a device
abbrev pub end_number_at : ℕ → ℕ → ℕ
end_number_at id i = 65536 * id + i

-- a worker's end is made and connected to the one with that number on that device
abbrev pub joins_end : ObjName → ℕ → ℕ → Terms → List Event
joins_end o peer id terms = makes_end o ∷ event.Connect o peer (address_of id) terms ∷ []

-- the ends of a context for that many workers from i on, connected to those of the device with that id
unfoldable pub ends_of : Name → ℕ → Terms → ℕ → ℕ → List Event
ends_of context other terms i zero = []
ends_of context other terms i (suc n) = joins_end (record { context = context; name = end_name i }) (end_number_at other i) other terms ++ ends_of context other terms (i + 1) n

-- what comes before the ends: a context, a domain p, a region of 64 bytes and a completion queue c
abbrev pub base_events : Name → Name → ℕ → List Event
base_events context region base =
    event.MakeContext context
    ∷ event.MakeDomain (record { context = context; name = codes "p" })
    ∷ event.MakeRegion (record { context = context; name = region }) (Some (codes "p")) base 64 (record { 0 = 15 })
    ∷ event.MakeCq (record { context = context; name = codes "c" }) 256
    ∷ []

-- the device that these lead to
unfoldable pub device_apart : ℕ → Name → Name → ℕ → ℕ → Terms → ℕ → Device
device_apart id context region base other terms workers = replay (replay (bare_device id) (base_events context region base)) (ends_of context other terms 1 workers)

-- the devices, each by events of its own
abbrev pub openings_apart : ℕ → List Device
openings_apart workers =
    device_apart 1 (codes "a") (codes "m") 4096 2 opening_terms workers
    ∷ device_apart 2 (codes "b") (codes "n") 8192 1 (exchanged opening_terms) workers
    ∷ bare_device 3
    ∷ []

-- they are the devices of the world
abbrev pub AreOpenedApart : Type 0
AreOpenedApart = (workers : ℕ) → 1 ≤ workers → workers ≤ 8 → openings_apart workers ≡ openings workers

-- ---- additions

-- the keys that the opening gives: the local one of a's region, and the remote one of b's
abbrev pub local_key : ℕ
local_key = 16777218

abbrev pub remote_key : ℕ
remote_key = 33554435

-- the queue pair number of a worker's end in the context a
abbrev pub end_number : ℕ → ℕ
end_number i = end_number_at 1 i

-- addition j of worker i: it adds 1 to b's word, and the old value goes to the worker's own place
abbrev pub addition : ℕ → ℕ → Request
addition i j = record {
  id = j;
  shape = record { kind = kind.FetchAdd; length = 8; remote = 8192; rkey = remote_key; imm = None; swap_add = 1; compare = 0 };
  lkey = local_key;
  local = 4096 + 8 * (i - 1);
  signaled = true;
  fence = false;
}

-- its posting
abbrev pub adds : ℕ → ℕ → Event
adds i j = event.PostSend (in_a (end_name i)) (addition i j)
