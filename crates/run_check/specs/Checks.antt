-- What the parts of the check of a run find out.
use Rattle.std.specs.Prelude.{◌≡◌, ◌≢◌, ℕ, ◌+◌, List, [], ◌∷◌, ◌++◌, length, take, drop, map, Option, None, Some, slice_get, slice_set}
use Rattle.rdma_types.specs.declared.requests.Address.{Address}
use Rattle.protocol.specs.declared.events.Event.{Event}
use Rattle.protocol.specs.declared.events.Event.TheVariants as event
use Rattle.protocol.specs.declared.images.ContextImage.{ContextImage}
use Rattle.protocol.specs.DeviceStep.{device_step}
use Rattle.protocol.specs.Fabric.{flight_of}
use Rattle.protocol.specs.Replay.{replay}
use Rattle.protocol.specs.State.{Flight}
use Rattle.order_rules.specs.declared.Receipt.{Receipt}
use Rattle.order_rules.specs.declared.OrderEntry.{OrderEntry}
use Rattle.order_rules.specs.Order.{HasArrived, IsDatagram}
use Rattle.shared_device.specs.Books.{BookView}
use Rattle.run_check.specs.declared.stops.StopAt.{StopAt}

-- ---- books and receipts

-- book i is of the device with that id and that address
abbrev pub IsNamed : List BookView → ℕ → ℕ → Address → Type 0
IsNamed books id i address = (b : BookView) × (slice_get books i ≡ Some b) × (b.opening.id ≡ id) × (b.opening.address ≡ address)

-- no book is of the device with that id
abbrev pub HasNoBook : List BookView → ℕ → Type 0
HasNoBook books id = (i : ℕ) (b : BookView) → slice_get books i ≡ Some b → b.opening.id ≢ id

-- receipt number `head` of a worker is r
abbrev pub StandsAt : List (List Receipt) → ℕ → ℕ → Receipt → Type 0
StandsAt receipts worker head r = (held : List Receipt) × (slice_get receipts worker ≡ Some held) × (slice_get held head ≡ Some r)

-- .. there is none
abbrev pub HasNoReceipt : List (List Receipt) → ℕ → ℕ → Type 0
HasNoReceipt receipts worker head = (r : Receipt) → StandsAt receipts worker head r → ⊥

-- the next receipt of a worker is r, and of this entry
abbrev pub IsHead : List (List Receipt) → List ℕ → OrderEntry → ℕ → ℕ → Receipt → Type 0
IsHead receipts heads e worker head r = StandsAt receipts worker head r × (slice_get heads worker ≡ Some head) × (r.device ≡ e.device) × (r.place ≡ e.place)

-- no worker's next receipt is of this entry
abbrev pub HasNoHead : List (List Receipt) → List ℕ → OrderEntry → Type 0
HasNoHead receipts heads e = (worker head : ℕ) (r : Receipt) → IsHead receipts heads e worker head r → ⊥

-- ---- journals

-- the receipt is of the next step of a book: it has its place and its event, and the outcome that the rules give there; and one
-- step more was met
pub record IsMetOne (b : BookView) (r : Receipt) (old new : ℕ) : Type 0 where
  pub place : r.place ≡ old
  pub event : slice_get b.journal old ≡ Some r.event
  pub outcome : r.outcome ≡ (device_step (replay b.opening (take old b.journal)) r.event).outcome
  pub next : new ≡ old + 1

-- .. and it is not
abbrev pub IsNotMet : BookView → Receipt → ℕ → Type 0
IsNotMet b r old = (new : ℕ) → IsMetOne b r old new → ⊥

-- .. of book i
abbrev pub IsMetAt : List BookView → List ℕ → List ℕ → ℕ → Receipt → Type 0
IsMetAt books ps ps' i r = (b : BookView) × (old : ℕ) × (new : ℕ) × (slice_get books i ≡ Some b) × (slice_get ps i ≡ Some old) × IsMetOne b r old new × (ps' ≡ slice_set ps i new)

-- .. and it is not
abbrev pub IsNotMetAt : List BookView → List ℕ → ℕ → Receipt → Type 0
IsNotMetAt books ps i r = (ps' : List ℕ) → IsMetAt books ps ps' i r → ⊥

-- ---- datagrams

-- datagram number k + 1 has that sender, that receiver and those bytes
abbrev pub IsAt : List Flight → Address → Address → List ℕ → ℕ → Type 0
IsAt flights from to bytes k = (f : Flight) × IsDatagram flights from to bytes k f

-- ---- stops

-- the receipt at that place hands out this image
abbrev pub IsStop : List (List Receipt) → StopAt → ContextImage → Type 0
IsStop receipts s image = (r : Receipt) × StandsAt receipts s.worker s.head r × (r.outcome.image ≡ Some image)

-- stop number i hands out this image
abbrev pub IsStopOf : List (List Receipt) → List StopAt → ContextImage → ℕ → Type 0
IsStopOf receipts stops image i = (s : StopAt) × (slice_get stops i ≡ Some s) × IsStop receipts s image

-- no stop does
abbrev pub HasNoStopOf : List (List Receipt) → List StopAt → ContextImage → Type 0
HasNoStopOf receipts stops image = (i : ℕ) → IsStopOf receipts stops image i → ⊥

-- a restore takes a stop with its image away; every other event takes none
abbrev pub TakesStop : List (List Receipt) → List StopAt → Event → List StopAt → Type 0
TakesStop receipts stops (event.Restore image) left = (i : ℕ) × IsStopOf receipts stops image i × (left ≡ take i stops ++ drop (i + 1) stops)
TakesStop receipts stops other left = left ≡ stops

-- .. there is no such stop
abbrev pub CannotTake : List (List Receipt) → List StopAt → Event → Type 0
CannotTake receipts stops e = (left : List StopAt) → TakesStop receipts stops e left → ⊥

-- the stop of a receipt, where it hands out an image
abbrev pub stop_of : ℕ → ℕ → Option ContextImage → List StopAt
stop_of worker head None = []
stop_of worker head (Some image) = record { worker = worker; head = head } ∷ []

-- ---- the whole

-- what must hold of the next receipt of a worker, where it is of this entry
pub record IsDueReceipt (books : List BookView) (receipts : List (List Receipt)) (e : OrderEntry) (ps : List ℕ) (fs : List Flight) (ss : List StopAt) (worker : ℕ) (r : Receipt) : Type 0 where
  pub is_worker : r.worker ≡ worker
  pub first : e.first ≡ length fs + 1
  pub count : e.count ≡ length r.outcome.sent
  pub arrived : (i : ℕ) (address : Address) → IsNamed books e.device i address → HasArrived fs address r.event
  pub taken : (left : List StopAt) × TakesStop receipts ss r.event left
  pub met : (i : ℕ) (address : Address) → IsNamed books e.device i address → (ps' : List ℕ) × IsMetAt books ps ps' i r

-- the entry may come next
pub record IsDue (books : List BookView) (receipts : List (List Receipt)) (e : OrderEntry) (ps hs : List ℕ) (fs : List Flight) (ss : List StopAt) : Type 0 where
  pub has_book : HasNoBook books e.device → ⊥
  pub has_head : HasNoHead receipts hs e → ⊥
  pub receipt : (worker head : ℕ) (r : Receipt) → IsHead receipts hs e worker head r → IsDueReceipt books receipts e ps fs ss worker r

-- all that one step of the check did
pub record IsAdvanced (books : List BookView) (receipts : List (List Receipt)) (e : OrderEntry) (ps hs : List ℕ) (fs : List Flight) (ss : List StopAt) (ps' hs' : List ℕ) (fs' : List Flight) (ss' : List StopAt) : Type 0 where
  pub at : ℕ
  pub address : Address
  pub worker : ℕ
  pub place : ℕ
  pub receipt : Receipt
  pub named : IsNamed books e.device at address
  pub head : IsHead receipts hs e worker place receipt
  pub is_worker : receipt.worker ≡ worker
  pub met : IsMetAt books ps ps' at receipt
  pub heads : hs' ≡ slice_set hs worker (place + 1)
  pub first : e.first ≡ length fs + 1
  pub count : e.count ≡ length receipt.outcome.sent
  pub arrived : HasArrived fs address receipt.event
  pub flights : fs' ≡ fs ++ map (flight_of address) receipt.outcome.sent
  pub rest : List StopAt
  pub taken : TakesStop receipts ss receipt.event rest
  pub stopped : ss' ≡ rest ++ stop_of worker place receipt.outcome.image

-- each journal's steps were met to the end
abbrev pub AreMet : List BookView → List ℕ → Type 0
AreMet books ps = (i : ℕ) (b : BookView) (n : ℕ) → slice_get books i ≡ Some b → slice_get ps i ≡ Some n → n ≡ length b.journal

-- each worker's receipts were met to the end
abbrev pub AreTold : List (List Receipt) → List ℕ → Type 0
AreTold receipts hs = (w : ℕ) (held : List Receipt) (n : ℕ) → slice_get receipts w ≡ Some held → slice_get hs w ≡ Some n → n ≡ length held
