-- What the delivery of a datagram may change in a world: on the device that has its address, what its bytes may change there.
use Rattle.std.specs.Prelude.{ℕ, ◌≡◌, ◌==◌, ◌&&◌, Bool, false, map, Option, Some, None, ⊤}
use Rattle.rdma_types.specs.declared.names.Name.{Name}
use Rattle.protocol.specs.declared.events.WorldEvent.{WorldEvent}
use Rattle.protocol.specs.declared.events.WorldEvent.TheVariants as event
use Rattle.protocol.specs.Fabric.{Here, IsAged, IsGone, IsLost, Look, kept_flight, look}
use Rattle.protocol.specs.State.{Device, Flight, World, device_at}
use Rattle.protocol.specs.WorldStep.{device_with, now_of}
use Rattle.law_arrivals.specs.Touched.{ChangesOnly, is_touched}

-- what bytes may change on the device with an id, where they reach that one alone
abbrev pub is_touched_on : Device → Flight → ℕ → Name → ℕ → ℕ → Bool
is_touched_on d f id name lkey k = (d.id == id) && is_touched d f.bytes name lkey k

-- a datagram that no device has the address of touches nothing
abbrev pub is_touched_with : Option Device → Flight → ℕ → Name → ℕ → ℕ → Bool
is_touched_with None f id name lkey k = false
is_touched_with (Some d) f id name lkey k = is_touched_on d f id name lkey k

-- .. and neither does one that is gone, lost or aged
abbrev pub is_touched_by : World → Look → ℕ → Name → ℕ → ℕ → Bool
is_touched_by w (Here f) id name lkey k = is_touched_with (device_with w f.to) f id name lkey k
is_touched_by w IsGone id name lkey k = false
is_touched_by w IsLost id name lkey k = false
is_touched_by w IsAged id name lkey k = false

-- the delivery of datagram n may change the byte at offset k of the region with that local key in that context on the
-- device with that id
abbrev pub is_delivered : World → ℕ → ℕ → Name → ℕ → ℕ → Bool
is_delivered w n id name lkey k = is_touched_by w (look w.sent n (now_of w (kept_flight w.sent n))) id name lkey k

-- on each device those bytes alone may differ that are touched; devices, carried images and the names of stopped contexts
-- are as they were
pub record ChangesWorldOnly (touched : ℕ → Name → ℕ → ℕ → Bool) (old new : World) : Type 0 where
  pub devices : (id : ℕ) → ChangesOnly (touched id) (device_at old id) (device_at new id)
  pub ids : map (λ d. d.id) new.devices ≡ map (λ d. d.id) old.devices
  pub carried : new.carried ≡ old.carried
  pub stopped : new.stopped ≡ old.stopped

-- where the event is a delivery, it changed only what its datagram may touch
abbrev pub DeliversWithin : WorldEvent → World → World → Type 0
DeliversWithin (event.Deliver n) old new = ChangesWorldOnly (is_delivered old n) old new
DeliversWithin e old new = ⊤
