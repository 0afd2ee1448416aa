-- How an order of steps of devices is a run of world events, so that what is known of worlds holds of it.
use Rattle.std.specs.Prelude.{◌≡◌, ℕ, ◌≤◌, ◌==◌, ◌&&◌, ◌||◌, Bool, true, false, List, [], ◌∷◌, ◌++◌, length, Option, Some, None, if◌then◌else◌, slice_get, bytes_eq, codes}
use Rattle.rdma_types.specs.declared.answers.Answer.{Answer}
use Rattle.rdma_types.specs.declared.answers.Answer.TheVariants as answer
use Rattle.rdma_types.specs.declared.verbs.Verb.{Verb}
use Rattle.protocol.specs.declared.events.Event.{Event}
use Rattle.protocol.specs.declared.events.Event.TheVariants as event
use Rattle.protocol.specs.declared.events.WorldEvent.{WorldEvent}
use Rattle.protocol.specs.declared.events.WorldEvent.TheVariants as world_event
use Rattle.rdma_types.specs.Limits.{latest, most_flights}
use Rattle.protocol.specs.State.{Device, Flight, World}
use Rattle.protocol.specs.Refusals.{has_context, has_husk}
use Rattle.protocol.specs.WorldStep.{context_of_event, world_after}
use Rattle.law_simulation.specs.Kept.{is_unmade, verb_in}
use Rattle.packetless_machine.specs.Machine.{Machine}
use Rattle.law_simulation.specs.Stands.{Stands}
use Rattle.law_simulation.specs.Law.{IsEventInRange, kept}
use Rattle.order_rules.specs.Lines.{Line, device_after, flown}
use Rattle.order_rules.specs.Order.{Each, IsWorldOrder}
use Rattle.order_rules.specs.Sides.{IsFresh, IsOneSided, IsNeverAged, carried_after, world_of}
use Rattle.order_rules.specs.Openings.{openings, opening_world}
use Rattle.order_rules.specs.Hears.{IsLegalOrder, heard}
use Rattle.order_rules.specs.Work.{accepts, is_fetch_add, lines_with}

-- ---- which orders

-- a verb is asked of a device where its context lives or left a husk; every other event may be asked of any
abbrev pub is_at_home : Device → Event → Option Verb → Bool
is_at_home d e None = true
is_at_home d e (Some v) = has_context d (context_of_event e) || has_husk d (context_of_event e)

-- an event that threads may ask for: its fields are in their ranges, and no end alone is connected
abbrev pub IsAskable : Event → Type 0
IsAskable (event.MakeContext name) = Unit {0}
IsAskable (event.Arrive from bytes) = Unit {0}
IsAskable (event.Stop name alone) = Unit {0}
IsAskable (event.Restore image) = Unit {0}
IsAskable (event.Release name) = Unit {0}
IsAskable other = IsEventInRange other

-- .. at its device
pub record IsAskedLine (openings : List Device) (earlier : List Line) (l : Line) : Type 0 where
  pub askable : IsAskable l.receipt.event
  pub at_home : is_at_home (device_after openings earlier l.receipt.device) l.receipt.event (verb_in l.receipt.event) ≡ true

-- an order of the steps of these devices that the laws speak of: one-sided, in time, asked so, and with a name for each context
pub record IsFairOrder (openings : List Device) (ls : List Line) : Type 0 where
  pub order : IsWorldOrder openings ls
  pub one_sided : IsOneSided openings ls
  pub in_time : IsNeverAged openings ls
  pub asked : Each (IsAskedLine openings) ls
  pub fresh : IsFresh openings ls

-- .. that begins with the opening devices of that many workers
abbrev pub IsFair : ℕ → List Line → Type 0
IsFair workers ls = IsFairOrder (openings workers) ls

-- ---- orders of which this can be seen

-- an event that workers and the mover ask of a device: additions and polls at the context a on its device, moves of b, and
-- what the network and the timers do
abbrev pub is_work : ℕ → Event → Bool
is_work device (event.PostSend o r) = device == 1 && (bytes_eq o.context (codes "a") && is_fetch_add r.shape.kind)
is_work device (event.Poll o most) = device == 1 && bytes_eq o.context (codes "a")
is_work device (event.Transmit o) = true
is_work device (event.Arrive from bytes) = true
is_work device (event.Expire o) = true
is_work device (event.RnrOver o) = true
is_work device (event.Stop name alone) = bytes_eq name (codes "b")
is_work device (event.Restore image) = true
is_work device (event.Release name) = true
is_work device other = false

-- an order of such events, in which at most 2^22 additions are accepted
pub record IsWork (workers : ℕ) (ls : List Line) : Type 0 where
  pub order : IsWorldOrder (openings workers) ls
  pub work : (k : ℕ) (l : Line) → slice_get ls k ≡ Some l → is_work l.receipt.device l.receipt.event ≡ true
  pub askable : (k : ℕ) (l : Line) → slice_get ls k ≡ Some l → IsAskable l.receipt.event
  pub few : lines_with accepts ls ≤ latest

-- such an order is fair
abbrev pub WorkIsFair : Type 0
WorkIsFair = (workers : ℕ) (ls : List Line) → 1 ≤ workers → workers ≤ 8 → IsWork workers ls → IsFair workers ls

-- ---- the events of a world

-- the events, and none where the step was refused
abbrev pub unless_refused : Answer → List WorldEvent → List WorldEvent
unless_refused (answer.Refused r) es = []
unless_refused other es = es

-- .. and none where the step does not count as made
abbrev pub unless_unmade : Answer → List WorldEvent → List WorldEvent
unless_unmade a es = if is_unmade a then [] else es

-- a world hands the event on where the context lives on that device
abbrev pub where_it_lives : Device → Event → List WorldEvent
where_it_lives d e = if has_context d (context_of_event e) then world_event.At e ∷ [] else []

-- the world events by which a world makes the device's step, where datagram k is what arrives: none for a step that is
-- refused for its place alone, and for one that no world makes
abbrev pub world_events : Device → ℕ → Event → Answer → List WorldEvent
world_events d k (event.Arrive from bytes) a = world_event.Deliver k ∷ []
world_events d k (event.Stop name alone) a = unless_refused a (world_event.Stop name ∷ [])
world_events d k (event.Restore image) a = unless_refused a (world_event.Restore image.name d.id ∷ [])
world_events d k (event.Release name) a = world_event.Release name d.id ∷ []
world_events d k (event.MakeContext name) a = unless_unmade a (world_event.MakeContext name d.id ∷ [])
world_events d k (event.Connect o peer partner terms) a = []
world_events d k e a = where_it_lives d e

-- those of some lines after earlier ones, where `number` gives for the place of a line the datagram that arrives there
unfoldable pub events_of : List Device → (ℕ → ℕ) → List Line → List Line → List WorldEvent
events_of openings number earlier [] = []
events_of openings number earlier (l ∷ ls) =
    world_events (device_after openings earlier l.receipt.device) (number (length earlier)) l.receipt.event l.receipt.outcome.answer
    ++ events_of openings number (earlier ++ l ∷ []) ls

-- ---- what is to be proved

-- the same datagram, whether taken or not
pub record IsSameFlight (f g : Flight) : Type 0 where
  pub from : f.from ≡ g.from
  pub to : f.to ≡ g.to
  pub number : f.number ≡ g.number
  pub says : f.bytes ≡ g.bytes

-- the world is where the lines lead, but for which datagrams were taken
pub record IsWorldAfter (openings : List Device) (ls : List Line) (w : World) : Type 0 where
  pub devices : w.devices ≡ (world_of openings ls).devices
  pub carried : w.carried ≡ carried_after [] ls
  pub count : length w.sent ≡ length (flown openings ls)
  pub sent : (k : ℕ) (f g : Flight) → slice_get (flown openings ls) k ≡ Some f → slice_get w.sent k ≡ Some g → IsSameFlight f g

-- the order is a run of world events from this world, in which applications hear the same
pub record IsRunFrom (w : World) (ls : List Line) : Type 0 where
  pub number : ℕ → ℕ
  pub reached : IsWorldAfter w.devices ls (world_after w (events_of w.devices number [] ls))
  pub heard_same : kept w (events_of w.devices number [] ls) ≡ heard ls

-- .. from the opening world of that many workers
abbrev pub IsRunOfWorld : ℕ → List Line → Type 0
IsRunOfWorld workers ls = IsRunFrom (opening_world workers) ls

-- a datagram that was sent may be sent again: the world stands for the same state of the machine. So a datagram that the
-- store no longer keeps may be delivered by its copy
abbrev pub CopiesStand : Type 0
CopiesStand = (w : World) (m : Machine) (k : ℕ) (f : Flight) → Stands w m → slice_get w.sent k ≡ Some f → Stands (record w { sent = w.sent ++ f ∷ [] }) m

-- a fair order is such a run, as long as the network's store keeps every datagram
abbrev pub ShortOrdersAreRuns : Type 0
ShortOrdersAreRuns = (workers : ℕ) (ls : List Line) → 1 ≤ workers → workers ≤ 8 → IsFair workers ls → length (flown (openings workers) ls) ≤ most_flights → IsRunOfWorld workers ls

-- each fair order is legal, also where it takes in datagrams that the store no longer keeps
abbrev pub FairOrdersAreLegal : Type 0
FairOrdersAreLegal = (workers : ℕ) (ls : List Line) → 1 ≤ workers → workers ≤ 8 → IsFair workers ls → IsLegalOrder workers ls
