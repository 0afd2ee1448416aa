-- Which events a step may be asked for: limits and ranges of their fields (this project's choice).
use Rattle.std.specs.Prelude.{ℕ, ◌≤◌, ◌<◌, ◌^◌}
use Rattle.rdma_types.specs.Limits.{AreTerms, most_capacity, most_depth, most_region_bytes}
use Rattle.rdma_types.specs.Shapes.{IsLawfulShape}
use Rattle.protocol.specs.declared.events.Event.{Event}
use Rattle.protocol.specs.declared.events.Event.TheVariants as event
use Rattle.protocol.specs.declared.events.WorldEvent.{WorldEvent}
use Rattle.protocol.specs.declared.events.WorldEvent.TheVariants as world_event
use Rattle.protocol.specs.Lawful.{IsLawful}

-- the depth of a queue is from 1 to its limit
abbrev pub IsDepth : ℕ → Type 0
IsDepth n = (1 ≤ n) × (n ≤ most_depth)

-- an event of a device has fields in their ranges; a posted request has a lawful shape, and an image keeps the rules
abbrev pub IsLawfulEvent : Event → Type 0
IsLawfulEvent (event.MakeRegion o domain base length' rights) = (base ≤ 2 ^ 63) × (1 ≤ length') × (length' ≤ most_region_bytes) × (rights.0 ≤ 15)
IsLawfulEvent (event.MakeCq o capacity) = (1 ≤ capacity) × (capacity ≤ most_capacity)
IsLawfulEvent (event.MakeQp o domain send_cq recv_cq send_depth recv_depth) = IsDepth send_depth × IsDepth recv_depth
IsLawfulEvent (event.Connect o peer partner terms) = (peer < 2 ^ 24) × AreTerms terms
IsLawfulEvent (event.PostSend o r) = IsLawfulShape r.shape
IsLawfulEvent (event.Restore image) = IsLawful image
IsLawfulEvent e = Unit {0}

-- a world hands an event to the device where its context lives, unless the event is of the network or of moving
abbrev pub IsHandedOn : Event → Type 0
IsHandedOn (event.MakeContext name) = ⊥
IsHandedOn (event.Connect o peer partner terms) = ⊥
IsHandedOn (event.Arrive from bytes) = ⊥
IsHandedOn (event.Stop name alone) = ⊥
IsHandedOn (event.Restore image) = ⊥
IsHandedOn (event.Release name) = ⊥
IsHandedOn e = Unit {0}

-- an event of a world has fields in their ranges, and what it hands on is lawful
abbrev pub IsLawfulWorldEvent : WorldEvent → Type 0
IsLawfulWorldEvent (world_event.AddDevice id address) = (1 ≤ id) × (id ≤ 255)
IsLawfulWorldEvent (world_event.At e) = IsHandedOn e × IsLawfulEvent e
IsLawfulWorldEvent (world_event.Connect one two terms) = AreTerms terms
IsLawfulWorldEvent e = Unit {0}
