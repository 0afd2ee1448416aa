-- The opening of the worked states, and the names in it.
use Rattle.std.specs.Prelude.{ℕ, List, [], ◌∷◌, Some}
use Rattle.rdma_types.specs.declared.names.ObjName.{ObjName}
use Rattle.rdma_types.specs.declared.requests.Terms.{Terms}
use Rattle.protocol.specs.declared.events.Event.TheVariants as events
use Rattle.protocol.specs.declared.events.WorldEvent.{WorldEvent}
use Rattle.protocol.specs.declared.events.WorldEvent.TheVariants as world_events
use Rattle.example_rules.specs.MachineOpening.{object, word_a, word_b, word_c, word_m, word_n, word_p, word_q}

-- the queue pair of context a
abbrev pub a_q : ObjName
a_q = object word_a word_q

-- the queue pair of context b
abbrev pub b_q : ObjName
b_q = object word_b word_q

-- the terms of the connections, with so many retries
abbrev pub terms : ℕ → Terms
terms retry = record { mtu = 256; own_start = 100; peer_start = 16777215; retry = retry; rnr = retry; reads = 4 }

-- context a on the first device and b on the second, each with a domain, a region of so many bytes, a completion queue and
-- a queue pair; the queue pairs are connected on these terms
abbrev pub opening : ℕ → Terms → List WorldEvent
opening bytes terms =
    world_events.MakeContext word_a 1
    ∷ world_events.MakeContext word_b 2
    ∷ world_events.At (events.MakeDomain (object word_a word_p))
    ∷ world_events.At (events.MakeDomain (object word_b word_p))
    ∷ world_events.At (events.MakeRegion (object word_a word_m) (Some word_p) 4096 bytes (record { 0 = 15 }))
    ∷ world_events.At (events.MakeRegion (object word_b word_n) (Some word_p) 8192 bytes (record { 0 = 15 }))
    ∷ world_events.At (events.MakeCq (object word_a word_c) 16)
    ∷ world_events.At (events.MakeCq (object word_b word_c) 16)
    ∷ world_events.At (events.MakeQp (object word_a word_q) (Some word_p) (Some word_c) (Some word_c) 8 8)
    ∷ world_events.At (events.MakeQp (object word_b word_q) (Some word_p) (Some word_c) (Some word_c) 8 8)
    ∷ world_events.Connect (object word_a word_q) (object word_b word_q) terms
    ∷ []
