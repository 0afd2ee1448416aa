-- The machine follows the events of settling.
use Rattle.std.proofs.lemmas.List.Elements.{All-weaker}
use Rattle.protocol.specs.declared.events.Event.TheVariants as events
use Rattle.protocol.specs.declared.events.WorldEvent.{WorldEvent}
use Rattle.protocol.specs.declared.events.WorldEvent.TheVariants as world_events
use Rattle.law_simulation.specs.Law.{AlwaysFollows, IsInRange}
use Rattle.law_simulation.specs.Runs.{RunsFollow}
use Rattle.law_settling.specs.Settling.{IsSettling, SettlingFollows}

pub in_range : (e : WorldEvent) → IsSettling e → IsInRange e
in_range (world_events.AddDevice id address) u = absurd u
in_range (world_events.MakeContext name device) u = absurd u
in_range (world_events.Connect one two terms) u = absurd u
in_range (world_events.Deliver k) u = tt
in_range (world_events.Lose k) u = absurd u
in_range (world_events.Wire k) u = absurd u
in_range (world_events.Stop name) u = absurd u
in_range (world_events.Restore name device) u = absurd u
in_range (world_events.Release name device) u = absurd u
in_range (world_events.At (events.MakeContext name)) u = absurd u
in_range (world_events.At (events.MakeDomain o)) u = absurd u
in_range (world_events.At (events.MakeRegion o domain base length rights)) u = absurd u
in_range (world_events.At (events.MakeCq o capacity)) u = absurd u
in_range (world_events.At (events.MakeQp o domain send_cq recv_cq send_depth recv_depth)) u = absurd u
in_range (world_events.At (events.Connect end peer partner terms)) u = absurd u
in_range (world_events.At (events.DropRegion o)) u = absurd u
in_range (world_events.At (events.Store o address bytes)) u = absurd u
in_range (world_events.At (events.Load o address length)) u = absurd u
in_range (world_events.At (events.PostSend o r)) u = absurd u
in_range (world_events.At (events.PostRecv o r)) u = absurd u
in_range (world_events.At (events.Poll o most)) u = absurd u
in_range (world_events.At (events.Transmit o)) u = tt
in_range (world_events.At (events.Arrive from bytes)) u = absurd u
in_range (world_events.At (events.Expire o)) u = tt
in_range (world_events.At (events.RnrOver o)) u = tt
in_range (world_events.At (events.Stop name alone)) u = absurd u
in_range (world_events.At (events.Restore image)) u = absurd u
in_range (world_events.At (events.Release name)) u = absurd u

pub all_follow : RunsFollow → ((e : WorldEvent) → AlwaysFollows e) → SettlingFollows
all_follow runs each w m es settling s = runs w m es (λ k e b. each _) (All-weaker IsSettling IsInRange in_range es settling) s
