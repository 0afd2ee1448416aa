-- The world that letters begin in: names, places and keys, and the events that make it (this project's choice).
use Rattle.std.specs.Prelude.{ℕ, zero, suc, ◌+◌, ◌*◌, ◌%◌, List, [], ◌∷◌, ◌++◌, Some}
use Rattle.rdma_types.specs.declared.names.Name.{Name}
use Rattle.rdma_types.specs.declared.names.ObjName.{ObjName}
use Rattle.rdma_types.specs.declared.requests.Receive.{Receive}
use Rattle.rdma_types.specs.declared.requests.Terms.{Terms}
use Rattle.protocol.specs.declared.events.Event.{Event}
use Rattle.protocol.specs.declared.events.Event.TheVariants as event
use Rattle.protocol.specs.declared.events.WorldEvent.{WorldEvent}
use Rattle.protocol.specs.declared.events.WorldEvent.TheVariants as world_event
use Rattle.protocol.specs.State.{World, empty_world}
use Rattle.protocol.specs.WorldStep.{world_after}

-- ---- names

-- an object of a context
abbrev pub object : Name → Name → ObjName
object c n = record { context = c; name = n }

-- a letter and a digit
abbrev pub numbered : ℕ → ℕ → Name
numbered letter i = letter ∷ (48 + i % 10) ∷ []

-- `p`, the domain of each context; `c`, its completion queue; `m`, a sender's region; `q`, a sender's end
abbrev pub domain_name : Name
domain_name = 112 ∷ []

abbrev pub queue_name : Name
queue_name = 99 ∷ []

abbrev pub region_name : Name
region_name = 109 ∷ []

abbrev pub end_name : Name
end_name = 113 ∷ []

-- `r`, the context that takes letters
abbrev pub receiver : Name
receiver = 114 ∷ []

-- `s1` to `s8`, the contexts that send letters
abbrev pub sender : ℕ → Name
sender i = numbered 115 i

-- the receiver's region and its end for sender i: `n1` and `q1`, and so on
abbrev pub receiver_region : ℕ → ObjName
receiver_region i = object receiver (numbered 110 i)

abbrev pub receiver_end : ℕ → ObjName
receiver_end i = object receiver (numbered 113 i)

-- the region and the end of sender i
abbrev pub sender_region : ℕ → ObjName
sender_region i = object (sender i) region_name

abbrev pub sender_end : ℕ → ObjName
sender_end i = object (sender i) end_name

-- ---- numbers

-- requests and receives that each end may have
abbrev pub depth : ℕ
depth = 16

-- bytes of a place where a message lands
abbrev pub place_bytes : ℕ
place_bytes = 4096

-- entries of the receiver's completion queue, and of a sender's
abbrev pub receiver_capacity : ℕ
receiver_capacity = 512

abbrev pub sender_capacity : ℕ
sender_capacity = 64

-- ---- places

-- the first address of a sender's region: 4,096 bytes from which each Send is posted, and then the slot
abbrev pub staging_address : ℕ
staging_address = 65536

-- where the body of a rendezvous stands until it is fetched
abbrev pub slot_address : ℕ
slot_address = 69632

-- place k of the receiver for messages of sender i; the region begins with place 0
abbrev pub place_address : ℕ → ℕ → ℕ
place_address i k = 2097152 * i + place_bytes * k

-- where the receiver fetches the body of a rendezvous of sender i to: behind the places
abbrev pub landing_address : ℕ → ℕ
landing_address i = place_address i depth

-- the local key of the receiver's region for sender i: the i-th region of device 1
abbrev pub receiver_key : ℕ → ℕ
receiver_key i = 16777216 + 2 * i

-- the local and the remote key of sender i's region: the i-th region of device 2
abbrev pub sender_key : ℕ → ℕ
sender_key i = 33554432 + 2 * i

abbrev pub sender_remote_key : ℕ → ℕ
sender_remote_key i = 33554433 + 2 * i

-- the connection of the receiver's end with a queue pair number: the i-th end of device 1 has 65,536 + i
abbrev pub connection_of : ℕ → ℕ
connection_of number = number % 256

-- ---- receives

-- place k of the receiver as a receive
abbrev pub receiver_receive : ℕ → ℕ → Receive
receiver_receive i k = record { id = k; lkey = receiver_key i; local = place_address i k; length = place_bytes }

-- receive k of a sender: it takes a message of no bytes
abbrev pub sender_receive : ℕ → Receive
sender_receive k = record { id = k; lkey = 0; local = 0; length = 0 }

-- both as events
abbrev pub receiver_receives : ℕ → ℕ → Event
receiver_receives i k = event.PostRecv (receiver_end i) (receiver_receive i k)

abbrev pub sender_receives : ℕ → ℕ → Event
sender_receives i k = event.PostRecv (sender_end i) (sender_receive k)

-- ---- the events

-- an event of a context
abbrev pub at : Event → WorldEvent
at e = world_event.At e

-- device i at 10.0.0.i, port 4791
abbrev pub device : ℕ → WorldEvent
device i = world_event.AddDevice i (record { ip = 167772160 + i; port = 4791 })

-- a context with its domain and its completion queue
abbrev pub context_events : Name → ℕ → ℕ → List WorldEvent
context_events c device capacity =
    world_event.MakeContext c device ∷ at (event.MakeDomain (object c domain_name)) ∷ at (event.MakeCq (object c queue_name) capacity) ∷ []

-- a region; its rights as bits: 1 local write, 4 remote read
abbrev pub region_event : ObjName → ℕ → ℕ → ℕ → WorldEvent
region_event o base length rights = at (event.MakeRegion o (Some domain_name) base length (record { 0 = rights }))

-- an end, whose requests and receives complete in the context's one queue
abbrev pub end_event : ObjName → WorldEvent
end_event o = at (event.MakeQp o (Some domain_name) (Some queue_name) (Some queue_name) depth depth)

-- the terms of each connection
abbrev pub terms : Terms
terms = record { mtu = 1024; own_start = 0; peer_start = 0; retry = 7; rnr = 7; reads = 4 }

-- the regions and the ends of connection i, whose slot has so many bytes, and the connection
abbrev pub joining_events : ℕ → ℕ → List WorldEvent
joining_events slot i =
    region_event (receiver_region i) (place_address i 0) (65536 + slot) 1
    ∷ region_event (sender_region i) staging_address (place_bytes + slot) 5
    ∷ end_event (receiver_end i)
    ∷ end_event (sender_end i)
    ∷ world_event.Connect (receiver_end i) (sender_end i) terms
    ∷ []

-- the first n receives at both ends of connection i
unfoldable pub receives_events : ℕ → ℕ → List WorldEvent
receives_events i zero = []
receives_events i (suc n) = receives_events i n ++ at (receiver_receives i n) ∷ at (sender_receives i n) ∷ []

-- sender i, whose slot has so many bytes, and its connection
unfoldable pub sender_events : ℕ → ℕ → List WorldEvent
sender_events slot i = context_events (sender i) 2 sender_capacity ++ (joining_events slot i ++ receives_events i depth)

-- the first n senders
unfoldable pub senders_events : ℕ → ℕ → List WorldEvent
senders_events slot zero = []
senders_events slot (suc n) = senders_events slot n ++ sender_events slot (suc n)

-- three devices, and the receiver on the first
abbrev pub first_events : List WorldEvent
first_events = device 1 ∷ device 2 ∷ device 3 ∷ context_events receiver 1 receiver_capacity

-- .. and the senders on the second; slots have so many bytes
unfoldable pub opening_events : ℕ → ℕ → List WorldEvent
opening_events slot peers = first_events ++ senders_events slot peers

-- the world that these events lead to
abbrev pub opening_world : ℕ → ℕ → World
opening_world slot peers = world_after empty_world (opening_events slot peers)
