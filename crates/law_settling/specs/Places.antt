-- Where the connected ends of a world are, and what stays of all ends while a world settles.
use Rattle.std.specs.Prelude.{◌≡◌, ◌≢◌, ℕ, ◌+◌, List, [], ◌∷◌, ◌++◌, length, map, flat_map, sum_by, Bool, true, Option, Some, None, IsSome, is_some, option_and_then, All, AllPairs, slice_get, nat_eq}
use Rattle.std.specs.List.{IsDistinct, position}
use Rattle.rdma_types.specs.declared.names.Name.{Name}
use Rattle.rdma_types.specs.declared.names.ObjName.{ObjName}
use Rattle.protocol.specs.Bytes.{number_at}
use Rattle.protocol.specs.declared.events.Event.TheVariants.{Expire, RnrOver}
use Rattle.protocol.specs.declared.events.WorldEvent.{WorldEvent}
use Rattle.protocol.specs.declared.events.WorldEvent.TheVariants.{At, Deliver}
use Rattle.protocol.specs.DeviceStep.{found_in}
use Rattle.protocol.specs.Fabric.{Here, kept_flight, look}
use Rattle.protocol.specs.Refusals.{has_context}
use Rattle.protocol.specs.Settle.{Mark, Settling, drained, expire_visit, left_image, left_link, link_at, live_ends, live_names, load_of, mark_of, marks, rnr_visit, round, same_marks, timers_if_still, transmit, unacknowledged, unfinished, visited, visiting}
use Rattle.protocol.specs.State.{Context, Device, End, Flight, Link, World}
use Rattle.protocol.specs.WorldStep.{device_with, now_of, world_after, world_step}
use Rattle.law_devices.specs.Sound.{IsSoundDevice}
use Rattle.law_settling.specs.Events.{drain_events, expire_events, rnr_events, round_events, timer_events_if_still, visit_events, visiting_events}
use Rattle.law_settling.specs.Settling.{IsSettling}
use Rattle.law_settling.specs.Weights.{same_mark}

-- ---- what stays of ends

-- of an end: its name, its number, and whether it is connected
pub record EndOutline : Type 0 where
  pub name : Name
  pub number : ℕ
  pub connected : Bool

-- of a context: its name, and its ends
pub record ContextOutline : Type 0 where
  pub name : Name
  pub ends : List EndOutline

-- of a device: its id, and its contexts
pub record DeviceOutline : Type 0 where
  pub id : ℕ
  pub contexts : List ContextOutline

-- of an end
abbrev pub end_outline : End → EndOutline
end_outline e = record { name = e.name; number = e.number; connected = is_some e.link }

-- of a context
abbrev pub context_outline : Context → ContextOutline
context_outline c = record { name = c.name; ends = map end_outline c.ends }

-- of a device
abbrev pub device_outline : Device → DeviceOutline
device_outline d = record { id = d.id; contexts = map context_outline d.contexts }

-- of a world: its devices, contexts and ends in their order
unfoldable pub outline : World → List DeviceOutline
outline w = map device_outline w.devices

-- ---- where connected ends are

-- the connected end o is at place k of the context at place j of the device at place i, which is the first with its context
pub record IsPlacedAt (w : World) (o : ObjName) (i j k : ℕ) : Type 0 where
  pub device : Device
  pub context : Context
  pub end : End
  pub home : position (λ d. has_context d o.context) w.devices ≡ Some i
  pub here : slice_get w.devices i ≡ Some device
  pub owner : slice_get device.contexts j ≡ Some context
  pub owned : context.name ≡ o.context
  pub there : slice_get context.ends k ≡ Some end
  pub named : end.name ≡ o.name
  pub linked : IsSome end.link

-- the end at place k of the context at place j of the device at place i, if there is one
abbrev pub end_there : World → ℕ → ℕ → ℕ → Option End
end_there w i j k = option_and_then (λ (d : Device). option_and_then (λ (c : Context). slice_get c.ends k) (slice_get d.contexts j)) (slice_get w.devices i)

-- .. and its link, if it is connected
abbrev pub link_there : World → ℕ → ℕ → ℕ → Option Link
link_there w i j k = option_and_then (λ (e : End). e.link) (end_there w i j k)

-- the name of an end, where it is connected
abbrev pub name_if : Option Link → ObjName → List ObjName
name_if None o = []
name_if (Some l) o = o ∷ []

-- the names of a context's connected ends
abbrev pub linked_in : Context → List ObjName
linked_in c = flat_map (λ e. name_if e.link (record { context = c.name; name = e.name })) c.ends

-- .. and of all live ends that are connected, in order of devices, contexts and ends
unfoldable pub linked_names : World → List ObjName
linked_names w = flat_map (λ d. flat_map linked_in d.contexts) w.devices

-- ---- what is asked of a world

-- no two devices have an id
abbrev pub HaveOwnIds : World → Type 0
HaveOwnIds w = IsDistinct nat_eq (map (λ d. d.id) w.devices)

-- a device is sound, and no two of its contexts have a name
pub record IsOrderly (d : Device) : Type 0 where
  pub sound : IsSoundDevice d
  pub contexts : AllPairs (λ a b. a ≢ b) (map (λ c. c.name) d.contexts)

-- the device that a delivery reaches is orderly
abbrev pub IsReady : World → WorldEvent → Type 0
IsReady w (Deliver n) = (f : Flight) (d : Device) → kept_flight w.sent n ≡ Some f → device_with w f.to ≡ Some d → IsOrderly d
IsReady w e = Unit {0}

-- no two devices have an id, and all are orderly
pub record AreOrderly (w : World) : Type 0 where
  pub ids : HaveOwnIds w
  pub devices : All IsOrderly w.devices

-- no two devices have a context of one name
abbrev pub HaveOwnContexts : World → Type 0
HaveOwnContexts w = (n : Name) (i : ℕ) (d : Device) → slice_get w.devices i ≡ Some d → has_context d n ≡ true → position (λ x. has_context x n) w.devices ≡ Some i

-- ---- places stay

-- what stays of all ends, the places of the connected ones, and their names
pub record KeepsPlaces (w w' : World) : Type 0 where
  pub outlines : outline w' ≡ outline w
  pub places : (o : ObjName) (i j k : ℕ) → IsPlacedAt w o i j k → IsPlacedAt w' o i j k
  pub names : linked_names w' ≡ linked_names w

-- all of this follows from the outline alone, and so does what is asked of ids and of names of contexts
abbrev pub OutlinesAreEnough : Type 0
OutlinesAreEnough = (w w' : World) → outline w' ≡ outline w → KeepsPlaces w w' × (HaveOwnIds w → HaveOwnIds w') × (HaveOwnContexts w → HaveOwnContexts w')

-- each event of settling keeps them
abbrev pub EventsKeepPlaces : Type 0
EventsKeepPlaces = (w : World) (e : WorldEvent) → IsSettling e → HaveOwnIds w → IsReady w e → KeepsPlaces w (world_step w e).world

-- .. and each list of such events, which leaves an orderly world orderly
abbrev pub RunsKeepPlaces : Type 0
RunsKeepPlaces = (w : World) (es : List WorldEvent) → All IsSettling es → AreOrderly w → KeepsPlaces w (world_after w es) × AreOrderly (world_after w es)

-- what is kept from world to world is kept from the first to the last
abbrev pub PlacesStayOn : Type 0
PlacesStayOn = (a b c : World) → KeepsPlaces a b → KeepsPlaces b c → KeepsPlaces a c

-- ---- a place is that of one name

-- one connected end is placed there
abbrev pub PlacesAreOfOne : Type 0
PlacesAreOfOne = (w : World) (o o' : ObjName) (i j k : ℕ) → IsPlacedAt w o i j k → IsPlacedAt w o' i j k → o ≡ o'

-- .. and what is found of its name is what is there
abbrev pub PlacedIsFound : Type 0
PlacedIsFound = (w : World) (o : ObjName) (i j k : ℕ) → (p : IsPlacedAt w o i j k) → IsOrderly p.device → link_there w i j k ≡ link_at w o

-- ---- marks

-- what is watched of the end at places
abbrev pub mark_there : World → ℕ → ℕ → ℕ → Mark
mark_there w i j k = mark_of (link_there w i j k)

-- no end of the device has the number but the one at these places
abbrev pub IsOnlyAt : Device → ℕ → ℕ → ℕ → Type 0
IsOnlyAt d n j k = (j' k' : ℕ) (c : Context) (e : End) → slice_get d.contexts j' ≡ Some c → slice_get c.ends k' ≡ Some e → e.number ≡ n → (j' ≡ j) × (k' ≡ k)

-- datagram n comes to the device at place i, and no end there has its number but the one at these places
pub record ComesToPlace (w : World) (n i j k : ℕ) : Type 0 where
  pub flight : Flight
  pub device : Device
  pub kept : kept_flight w.sent n ≡ Some flight
  pub found : device_with w flight.to ≡ Some device
  pub here : slice_get w.devices i ≡ Some device
  pub orderly : IsOrderly device
  pub only : IsOnlyAt device (number_at 5 3 flight.bytes) j k

-- it changes no mark but that of this end
abbrev pub DeliveriesMarkOne : Type 0
DeliveriesMarkOne =
    (w : World) (n i j k : ℕ) → HaveOwnIds w → ComesToPlace w n i j k →
    same_marks (marks w) (marks (world_step w (Deliver n)).world) ≡ same_mark (mark_there w i j k) (mark_there (world_step w (Deliver n)).world i j k)

-- where datagram n comes, no connected end has its number, or it comes nowhere
abbrev pub ComesToNone : World → ℕ → Type 0
ComesToNone w n = (f : Flight) (d : Device) → look w.sent n (now_of w (kept_flight w.sent n)) ≡ Here f → device_with w f.to ≡ Some d → found_in (number_at 5 3 f.bytes) d.contexts ≡ []

-- it changes no device, and so no mark
abbrev pub DeliveriesMarkNone : Type 0
DeliveriesMarkNone =
    (w : World) (n : ℕ) → HaveOwnIds w → ComesToNone w n →
    ((world_step w (Deliver n)).world.devices ≡ w.devices) × (same_marks (marks w) (marks (world_step w (Deliver n)).world) ≡ true)

-- no mark differs but that of the end of a name
abbrev pub MarksOnly : World → World → ObjName → Type 0
MarksOnly w w' o = same_marks (marks w) (marks w') ≡ same_mark (mark_of (link_at w o)) (mark_of (link_at w' o))

-- an expiry, and the end of an RNR timer, change no mark but that of their end
abbrev pub TimersMarkOne : Type 0
TimersMarkOne = (w : World) (o : ObjName) → HaveOwnIds w → MarksOnly w (world_step w (At (Expire o))).world o × MarksOnly w (world_step w (At (RnrOver o))).world o

-- a transmission changes no mark
abbrev pub TransmissionsMarkNone : Type 0
TransmissionsMarkNone = (w : World) (o : ObjName) → HaveOwnIds w → same_marks (marks w) (marks (world_step w (transmit o)).world) ≡ true

-- ---- visits

-- the visits of all live ends are those of the connected ones, and so are their events
pub record VisitsLinked (w : World) (s : Settling) : Type 0 where
  pub sends : visiting visited s (live_names w) ≡ visiting visited s (linked_names w)
  pub waits : visiting rnr_visit s (live_names w) ≡ visiting rnr_visit s (linked_names w)
  pub expiries : visiting expire_visit s (live_names w) ≡ visiting expire_visit s (linked_names w)
  pub send_events : visiting_events visited visit_events s (live_names w) ≡ visiting_events visited visit_events s (linked_names w)
  pub wait_events : visiting_events rnr_visit rnr_events s (live_names w) ≡ visiting_events rnr_visit rnr_events s (linked_names w)
  pub expiry_events : visiting_events expire_visit expire_events s (live_names w) ≡ visiting_events expire_visit expire_events s (linked_names w)

-- .. where the settling's world has the ends of w
abbrev pub VisitsAreLinked : Type 0
VisitsAreLinked = (w : World) (s : Settling) → AreOrderly s.world → HaveOwnContexts s.world → outline s.world ≡ outline w → VisitsLinked w s

-- a round visits the connected ends alone, and so do its events; it keeps their places, and leaves an orderly world orderly
pub record RoundLinked (s : Settling) : Type 0 where
  pub is : round s ≡ timers_if_still (visiting visited (drained s) (linked_names s.world)) (linked_names s.world)
  pub events :
      round_events s
      ≡ drain_events s
      ++ (visiting_events visited visit_events (drained s) (linked_names s.world)
      ++ timer_events_if_still (visiting visited (drained s) (linked_names s.world)) (linked_names s.world))
  pub keeps : KeepsPlaces s.world (round s).world
  pub orderly : AreOrderly (round s).world

-- .. where each context lives on one device
abbrev pub RoundsAreLinked : Type 0
RoundsAreLinked = (s : Settling) → AreOrderly s.world → HaveOwnContexts s.world → RoundLinked s

-- the load is that of the connected ends, and what is left is left by them and by carried ends
pub record CountsLinked (w : World) : Type 0 where
  pub load : load_of w ≡ sum_by (λ o. unacknowledged (link_at w o)) (linked_names w) + length (live_ends w) + 1
  pub left : unfinished w ≡ flat_map (λ o. left_link o (link_at w o)) (linked_names w) ++ flat_map (λ c. flat_map (left_image c.name) c.ends) w.carried

-- .. of an orderly world
abbrev pub CountsAreLinked : Type 0
CountsAreLinked = (w : World) → AreOrderly w → HaveOwnContexts w → CountsLinked w
