-- The steps of several devices in one order, a line for each step; and what the lines say of each device, of each worker
-- and of the network (this project's choice).
use Rattle.std.specs.Prelude.{ℕ, ◌==◌, List, [], ◌∷◌, if◌then◌else◌}
use Rattle.protocol.specs.declared.events.Event.{Event}
use Rattle.rdma_types.specs.Lists.{at}
use Rattle.protocol.specs.State.{Device, Flight, no_device}
use Rattle.protocol.specs.Fabric.{sending}
use Rattle.protocol.specs.Replay.{replay}
use Rattle.order_rules.specs.declared.Receipt.{Receipt}
use Rattle.order_rules.specs.declared.OrderEntry.{OrderEntry}

-- a step: what its worker holds of it, the number of the first datagram that it sent, and how many it sent
pub record Line : Type 0 where
  pub receipt : Receipt
  pub first : ℕ
  pub count : ℕ

-- what an order book keeps of a line
abbrev pub entry_of : Line → OrderEntry
entry_of l = record { device = l.receipt.device; place = l.receipt.place; first = l.first; count = l.count }

-- the events of the device with an id, in their order
unfoldable pub events_on : ℕ → List Line → List Event
events_on id [] = []
events_on id (l ∷ ls) = if l.receipt.device == id then l.receipt.event ∷ events_on id ls else events_on id ls

-- the receipts of a worker, in their order
unfoldable pub held_by : ℕ → List Line → List Receipt
held_by worker [] = []
held_by worker (l ∷ ls) = if l.receipt.worker == worker then l.receipt ∷ held_by worker ls else held_by worker ls

-- the device with an id before the first step
abbrev pub opening_of : List Device → ℕ → Device
opening_of openings id = at (λ d. d.id) no_device id openings

-- the device with an id after some lines
unfoldable pub device_after : List Device → List Line → ℕ → Device
device_after openings ls id = replay (opening_of openings id) (events_on id ls)

-- every datagram that was sent, in its order, after others
unfoldable pub flown_after : List Device → List Flight → List Line → List Flight
flown_after openings flights [] = flights
flown_after openings flights (l ∷ ls) = flown_after openings (sending flights (opening_of openings l.receipt.device).address l.receipt.outcome.sent) ls

-- every datagram that was sent: number k stands at place k - 1
abbrev pub flown : List Device → List Line → List Flight
flown openings ls = flown_after openings [] ls
