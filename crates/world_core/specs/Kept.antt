-- What a call of a world needs and says, whose network keeps the last datagrams.
use Rattle.std.specs.Prelude.{◌≡◌, ℕ, ◌≤◌, ◌^◌, List, length, Option, Some, None}
use Rattle.rdma_types.specs.declared.answers.Answer.{Answer}
use Rattle.protocol.specs.declared.events.WorldEvent.{WorldEvent}
use Rattle.protocol.specs.declared.events.WorldEvent.TheVariants as event
use Rattle.protocol.specs.State.{Device, World}
use Rattle.protocol.specs.Wire.{packet_of}
use Rattle.protocol.specs.WorldStep.{Step, device_with, now_of}
use Rattle.law_kept_datagrams.specs.Alike.{with_kept_datagrams}
use Rattle.protocol.specs.Fabric.{Here, IsAged, IsGone, IsLost, Look, forgetting, kept_flight, look}
use Rattle.device_core.specs.Readings as device

-- those datagrams are blank that are not kept, and there are numbers left for those of one more step
pub record IsReady (w : World) : Type 0 where
  pub kept : forgetting w.sent ≡ w.sent
  pub few : length w.sent ≤ 2 ^ 62

-- a call answers what the rules' step does, and leaves its world, in which those datagrams are blank that are not kept
pub record Makes (s : Step) (answer : Answer) (new : World) : Type 0 where
  pub answered : answer ≡ s.answer
  pub left : new ≡ with_kept_datagrams s.world

-- bytes do nothing on the device that they come to, or no device has their address
abbrev pub DoNothingOn : Option Device → List ℕ → Type 0
DoNothingOn None bytes = Unit {0}
DoNothingOn (Some d) bytes = device.DoNothing d (packet_of bytes)

-- the delivery of a datagram that is gone, lost or aged, or does nothing where it comes
abbrev pub TakesNone : World → Look → Type 0
TakesNone w IsGone = Unit {0}
TakesNone w IsLost = Unit {0}
TakesNone w IsAged = Unit {0}
TakesNone w (Here f) = DoNothingOn (device_with w f.to) f.bytes

-- an event of a world that takes no memory
abbrev pub TakesNoMemory : World → WorldEvent → Type 0
TakesNoMemory w (event.At e) = device.TakesNoMemory e
TakesNoMemory w (event.Connect one two terms) = Unit {0}
TakesNoMemory w (event.Deliver k) = TakesNone w (look w.sent k (now_of w (kept_flight w.sent k)))
TakesNoMemory w (event.Lose k) = Unit {0}
TakesNoMemory w (event.Release n k) = Unit {0}
TakesNoMemory w e = ⊥
