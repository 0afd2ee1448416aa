-- The book of a device: its opening, and the events that it was asked for (this project's choice).
use Rattle.std.specs.Prelude.{◌≡◌, ◌⊎◌, ℕ, All, IfSome, List, [], ◌∷◌, ◌++◌, length, map, take, slice_get, Some}
use Rattle.std.specs.Arc.{arc_value}
use Rattle.std.specs.declared.sync.Arc.{Arc}
use Rattle.protocol.specs.declared.events.Event.{Event}
use Rattle.protocol.specs.declared.images.Outcome.{Outcome}
use Rattle.protocol.specs.State.{Device}
use Rattle.protocol.specs.DeviceStep.{device_step}
use Rattle.protocol.specs.Events.{IsLawfulEvent}
use Rattle.protocol.specs.Lawful.{IsLawful}
use Rattle.protocol.specs.Replay.{outcomes, replay}
use Rattle.order_rules.specs.declared.Receipt.{Receipt}
use Rattle.shared_device.specs.declared.receipt.Step.{Step}

-- what a book shows: its opening device and the events that it was asked for, oldest first
pub record BookView : Type 0 where
  pub opening : Device
  pub journal : List Event

-- the device that a book holds
abbrev pub device_of : BookView → Device
device_of b = replay b.opening b.journal

-- the book of a device before its first step
abbrev pub opened_with : Device → BookView
opened_with d = record { opening = d; journal = [] }

-- the opening devices of some books
abbrev pub openings_of : List BookView → List Device
openings_of books = map (λ b. b.opening) books

-- no two books are of one device
abbrev pub AreApart : List BookView → Type 0
AreApart books = (i j : ℕ) (a b : BookView) → slice_get books i ≡ Some a → slice_get books j ≡ Some b → a.opening.id ≡ b.opening.id → i ≡ j

-- a book's step: its place is the number of the earlier ones, and the event stands last in the journal
pub record IsBookStep (old new : BookView) (event : Event) (place : ℕ) : Type 0 where
  pub place_is : place ≡ length old.journal
  pub opening : new.opening ≡ old.opening
  pub journal : new.journal ≡ old.journal ++ event ∷ []

-- step number `place` of a book: its event stands there in the journal, and its outcome is what the rules give after the earlier
-- ones, with an image that keeps the rules
pub record IsStepOf (b : BookView) (place : ℕ) (s : Step) : Type 0 where
  pub event : slice_get b.journal place ≡ Some s.event
  pub outcome : s.outcome ≡ (device_step (replay b.opening (take place b.journal)) s.event).outcome
  pub image : IfSome s.outcome.image (λ i. IsLawful i)

-- a step may have been made, or none
abbrev pub MayHaveStepped : BookView → BookView → Event → Type 0
MayHaveStepped old new event = (new ≡ old) ⊎ ((place : ℕ) × IsBookStep old new event place)

-- what a lock that is held shows: the device's id, and its book
pub record GuardView : Type 0 where
  pub id : ℕ
  pub book : BookView

-- the receipt of a call: what was asked, of which device, by whom
pub record IsReceiptOf (device worker : ℕ) (event : Event) (r : Receipt) : Type 0 where
  pub device_is : r.device ≡ device
  pub worker_is : r.worker ≡ worker
  pub event_is : r.event ≡ event

-- the receipt of a step of a book: the step has its place, and the outcome that the rules give
pub record IsReceiptOfStep (old new : BookView) (event : Event) (r : Receipt) : Type 0 where
  pub step : IsBookStep old new event r.place
  pub outcome : r.outcome ≡ (device_step (device_of old) event).outcome

-- the outcome is what the rules give for the event after so many steps of some book. Which book that was is not known when its
-- lock was given back
abbrev pub IsOutcomeAfter : ℕ → Event → Outcome → Type 0
IsOutcomeAfter place event o = (b : BookView) × (place ≡ length b.journal) × (o ≡ (device_step (device_of b) event).outcome)

-- ---- what a book keeps

-- the steps that a journal shares
abbrev pub steps_in : {A : Type 0} → List (Arc Step A) → List Step
steps_in = map arc_value

abbrev pub events_of : List Step → List Event
events_of = map (λ s. s.event)

-- the device is what the events lead to from the opening; each event is lawful, each outcome is what the rules give, and each
-- image keeps the rules
pub record IsHeld (opening : Device) (steps : List Step) (d : Device) : Type 0 where
  pub device : d ≡ replay opening (events_of steps)
  pub lawful : All IsLawfulEvent (events_of steps)
  pub outcomes_are : map (λ s. s.outcome) steps ≡ outcomes opening (events_of steps)
  pub images : All (λ s. IfSome s.outcome.image (λ i. IsLawful i)) steps
