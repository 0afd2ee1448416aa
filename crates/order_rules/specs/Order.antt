-- One order of all steps of all devices: a world order (this project's choice).
use Rattle.std.specs.Prelude.{◌≡◌, ℕ, ◌+◌, true, List, [], ◌∷◌, ◌++◌, length, take, slice_get, Option, Some, None}
use Rattle.rdma_types.specs.declared.requests.Address.{Address}
use Rattle.protocol.specs.declared.events.Event.{Event}
use Rattle.protocol.specs.declared.events.Event.TheVariants as event
use Rattle.protocol.specs.declared.images.ContextImage.{ContextImage}
use Rattle.rdma_types.specs.Lists.{has}
use Rattle.protocol.specs.State.{Device, Flight}
use Rattle.protocol.specs.DeviceStep.{device_step}
use Rattle.order_rules.specs.Lines.{Line, events_on, opening_of, device_after, flown}

-- ---- arrivals

-- datagram number k + 1 among these is `f`, and has that sender, that receiver and those bytes
pub record IsDatagram (flights : List Flight) (from to : Address) (bytes : List ℕ) (k : ℕ) (f : Flight) : Type 0 where
  pub there : slice_get flights k ≡ Some f
  pub sender : f.from ≡ from
  pub receiver : f.to ≡ to
  pub says : f.bytes ≡ bytes

-- a datagram like that is among these
abbrev pub HasDatagram : List Flight → Address → Address → List ℕ → Type 0
HasDatagram flights from to bytes = (k : ℕ) × (f : Flight) × IsDatagram flights from to bytes k f

-- what arrives at the address was sent to it; every other event is free
abbrev pub HasArrived : List Flight → Address → Event → Type 0
HasArrived flights to (event.Arrive from bytes) = HasDatagram flights from to bytes
HasArrived flights to other = Unit {0}

-- ---- one line

-- a line that may follow the earlier ones: its device is there, its place is the next of that device, its outcome is what
-- the rules give at that point, its datagrams have the next numbers, and what it takes in was sent before
pub record IsLine (openings : List Device) (earlier : List Line) (l : Line) : Type 0 where
  pub known : has (λ d. d.id) l.receipt.device openings ≡ true
  pub place : l.receipt.place ≡ length (events_on l.receipt.device earlier)
  pub outcome : l.receipt.outcome ≡ (device_step (device_after openings earlier l.receipt.device) l.receipt.event).outcome
  pub first : l.first ≡ length (flown openings earlier) + 1
  pub count : l.count ≡ length l.receipt.outcome.sent
  pub arrived : HasArrived (flown openings earlier) (opening_of openings l.receipt.device).address l.receipt.event

-- a fact of each line, given the lines before it
abbrev pub Each : (List Line → Line → Type 0) → List Line → Type 0
Each Fact ls = (k : ℕ) (l : Line) → slice_get ls k ≡ Some l → Fact (take k ls) l

-- ---- restores

-- `left` are the images without one that is like this image
pub record IsTaken (images : List ContextImage) (image : ContextImage) (left : List ContextImage) : Type 0 where
  pub before : List ContextImage
  pub after : List ContextImage
  pub there : images ≡ before ++ image ∷ after
  pub rest : left ≡ before ++ after

-- a restore takes its image, also where it is refused; every other event takes none
abbrev pub Takes : List ContextImage → Event → List ContextImage → Type 0
Takes images (event.Restore image) left = IsTaken images image left
Takes images other left = left ≡ images

-- the images with the one that a stop handed out
abbrev pub with_stopped : Option ContextImage → List ContextImage → List ContextImage
with_stopped None images = images
with_stopped (Some image) images = images ++ image ∷ []

-- each restore takes an image that an earlier stop handed out and that no other restore took: `images` are those that may
-- be taken before the lines, and `left` after them
abbrev pub AreRestored : List ContextImage → List Line → List ContextImage → Type 0
AreRestored images [] left = left ≡ images
AreRestored images (l ∷ ls) left = (rest : List ContextImage) × Takes images l.receipt.event rest × AreRestored (with_stopped l.receipt.outcome.image rest) ls left

-- ---- the whole

-- an order of steps of the devices with these openings
pub record IsWorldOrder (openings : List Device) (ls : List Line) : Type 0 where
  pub each : Each (IsLine openings) ls
  pub untaken : List ContextImage  -- what stops handed out and no restore took
  pub restored : AreRestored [] ls untaken
