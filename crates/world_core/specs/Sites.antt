-- Where things of a world are.
use Rattle.std.specs.Prelude.{◌≡◌, ◌<◌, ◌^◌, ◌&&◌, ◌||◌, ℕ, Bool, true, false, List, Option, Some, None, slice_get, slice_set, if◌then◌else◌}
use Rattle.std.specs.List.{position, remove}
use Rattle.rdma_types.specs.declared.answers.EndState.{EndState}
use Rattle.rdma_types.specs.declared.answers.EndState.TheVariants as state
use Rattle.rdma_types.specs.declared.answers.EndView.{EndView}
use Rattle.rdma_types.specs.declared.names.ObjName.{ObjName}
use Rattle.protocol.specs.Bytes.{number_at}
use Rattle.protocol.specs.Fabric.{Here, IsGone, IsLost, IsAged, kept_flight, look}
use Rattle.protocol.specs.Refusals.{has_context}
use Rattle.protocol.specs.declared.events.Event.{Event}
use Rattle.protocol.specs.DeviceStep.{device_step}
use Rattle.protocol.specs.State.{Device, Flight, World}
use Rattle.protocol.specs.WorldStep.{Step, answers, device_with, end_of, has_live_end, home, is_carried_end, is_done, is_resuming_end, now_of}
use Rattle.device_core.specs.declared.finding.FoundEnd.{FoundEnd}
use Rattle.device_core.specs.Finding.{IsFound}
use Rattle.world_core.specs.declared.making.EndAddress.{EndAddress}
use Rattle.world_core.specs.declared.network.Delivery.{Delivery}
use Rattle.world_core.specs.declared.network.Delivery.TheVariants as delivery

-- the end lives on the device at that place, which has that address, and it has that number
pub record IsEndAddress (w : World) (o : ObjName) (s : EndAddress) : Type 0 where
  pub place : position (λ d. has_context d o.context) w.devices ≡ Some s.place
  pub there : has_live_end w o ≡ true
  pub address : s.address ≡ (home w o.context).address
  pub number : s.number ≡ (end_of w o).number
  pub small : s.number < 2 ^ 24

-- what was found of the end that bytes are for, on the device that they come to, if there is one
abbrev pub IsFoundOn : Option Device → List ℕ → Option FoundEnd → Type 0
IsFoundOn None bytes found = found ≡ None
IsFoundOn (Some d) bytes found = IsFound d (number_at 5 3 bytes) found

-- datagram k is here, the device at a place is the first with its address, and this was found there of the end that it is for
pub record ComesTo (w : World) (k place : ℕ) (end : Option FoundEnd) : Type 0 where
  pub flight : Flight
  pub device : Device
  pub here : look w.sent k (now_of w (kept_flight w.sent k)) ≡ Here flight
  pub kept : kept_flight w.sent k ≡ Some flight
  pub at : slice_get w.devices place ≡ Some device
  pub found : device_with w flight.to ≡ Some device
  pub is : IsFound device (number_at 5 3 flight.bytes) end

-- datagram k is here, and no device has its address
pub record ComesNowhere (w : World) (k : ℕ) : Type 0 where
  pub flight : Flight
  pub here : look w.sent k (now_of w (kept_flight w.sent k)) ≡ Here flight
  pub none : device_with w flight.to ≡ None

-- what becomes of datagram k where it is delivered
abbrev pub IsDelivery : World → ℕ → Delivery → Type 0
IsDelivery w k delivery.Gone = look w.sent k (now_of w (kept_flight w.sent k)) ≡ IsGone
IsDelivery w k delivery.Lost = look w.sent k (now_of w (kept_flight w.sent k)) ≡ IsLost
IsDelivery w k delivery.Aged = look w.sent k (now_of w (kept_flight w.sent k)) ≡ IsAged
IsDelivery w k delivery.Nowhere = ComesNowhere w k
IsDelivery w k (delivery.Comes place end) = ComesTo w k place end

-- a state in Rts
abbrev pub is_rts : EndState → Bool
is_rts state.Running = true
is_rts state.Paused = true
is_rts state.Resuming = true
is_rts s = false

-- the partner of an end moves, as its view tells
abbrev pub view_moves : World → EndView → Bool
view_moves w v = is_rts v.state && (is_carried_end w v.peer || is_resuming_end w v.peer)

-- a step after which the image at a spot is carried no more, where it is done
abbrev pub put_back : Step → ℕ → Step
put_back s spot = if is_done s.answer then answers (record s.world { carried = remove s.world.carried spot }) s.answer else s

-- the world in which the device at a place has made a step that sends nothing and carries nothing off
abbrev pub joined_at : World → ℕ → Device → Event → World
joined_at w place d e = record w { devices = slice_set w.devices place (device_step d e).device }

-- the state of an end that was never connected
abbrev pub is_init_state : EndState → Bool
is_init_state state.Init = true
is_init_state s = false
