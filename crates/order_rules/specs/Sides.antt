-- Orders in which one end of a connection moves at a time, no datagram is too late, and each context has a name of its own (this
-- project's choice).
use Rattle.std.specs.Prelude.{◌≡◌, ℕ, ◌&&◌, ◌||◌, Bool, true, false, List, [], ◌∷◌, map, Some}
use Rattle.rdma_types.specs.declared.answers.Answer.{Answer}
use Rattle.rdma_types.specs.declared.answers.Answer.TheVariants as answer
use Rattle.rdma_types.specs.declared.requests.Address.{Address}
use Rattle.protocol.specs.declared.events.Event.{Event}
use Rattle.protocol.specs.declared.events.Event.TheVariants as event
use Rattle.protocol.specs.declared.images.ContextImage.{ContextImage}
use Rattle.rdma_types.specs.Lists.{without, some}
use Rattle.protocol.specs.State.{Device, Flight, World, context_at, device_at}
use Rattle.protocol.specs.Fabric.{is_late}
use Rattle.protocol.specs.WorldStep.{is_carried, is_done, is_live, partner_moves, now_at}
use Rattle.order_rules.specs.Lines.{Line, opening_of, device_after, flown}
use Rattle.order_rules.specs.Order.{Each, IsDatagram, with_stopped}

-- ---- the world that some lines lead to

-- the images without the one that a restore put on a device; a refused restore leaves it carried
abbrev pub without_restored : Event → Answer → List ContextImage → List ContextImage
without_restored (event.Restore image) answer.Done images = without (λ c. c.name) image.name images
without_restored other a images = images

-- the images that are carried after some lines, where these were carried before
unfoldable pub carried_after : List ContextImage → List Line → List ContextImage
carried_after images [] = images
carried_after images (l ∷ ls) = carried_after (with_stopped l.receipt.outcome.image (without_restored l.receipt.event l.receipt.outcome.answer images)) ls

-- devices, datagrams and carried images after some lines; which names were ever stopped is left out
unfoldable pub world_of : List Device → List Line → World
world_of openings ls = record {
  devices = map (λ d. device_after openings ls d.id) openings;
  sent = flown openings ls;
  carried = carried_after [] ls;
  stopped = [];
}

-- ---- one side at a time

-- the answer of a stop that was made
abbrev pub is_stopped : Answer → Bool
is_stopped answer.Stopped = true
is_stopped other = false

-- the event stops a context of which an end in Rts has a partner in Rts that is carried or Resuming
unfoldable pub stops_beside_a_mover : World → ℕ → Event → Bool
stops_beside_a_mover w id (event.Stop name alone) = some (λ e. partner_moves w e.link) (context_at (device_at w id) name).ends
stops_beside_a_mover w id other = false

-- the line makes no such stop
abbrev pub IsOneSidedLine : List Device → List Line → Line → Type 0
IsOneSidedLine openings earlier l = is_stopped l.receipt.outcome.answer && stops_beside_a_mover (world_of openings earlier) l.receipt.device l.receipt.event ≡ false

-- no stop is made while a partner in Rts is carried or Resuming
abbrev pub IsOneSided : List Device → List Line → Type 0
IsOneSided openings ls = Each (IsOneSidedLine openings) ls

-- ---- none is too late

-- one of the datagrams that the event may have taken in is not too late for the end that it reaches
abbrev pub IsInTime : List Flight → Address → Device → Event → Type 0
IsInTime flights to d (event.Arrive from bytes) = (k : ℕ) × (f : Flight) × IsDatagram flights from to bytes k f × (is_late f.number (now_at (Some d) bytes) ≡ false)
IsInTime flights to d other = Unit {0}

-- .. at its line
abbrev pub IsInTimeLine : List Device → List Line → Line → Type 0
IsInTimeLine openings earlier l = IsInTime (flown openings earlier) (opening_of openings l.receipt.device).address (device_after openings earlier l.receipt.device) l.receipt.event

-- no datagram arrives more than 2^22 numbers late
abbrev pub IsNeverAged : List Device → List Line → Type 0
IsNeverAged openings ls = Each (IsInTimeLine openings) ls

-- ---- no name is made twice

-- the event makes a context whose name another has, on a device or carried
unfoldable pub makes_a_second : World → Event → Bool
makes_a_second w (event.MakeContext name) = is_live w name || is_carried w name
makes_a_second w other = false

-- the line makes no such context
abbrev pub IsFreshLine : List Device → List Line → Line → Type 0
IsFreshLine openings earlier l = is_done l.receipt.outcome.answer && makes_a_second (world_of openings earlier) l.receipt.event ≡ false

-- no context is made whose name another has
abbrev pub IsFresh : List Device → List Line → Type 0
IsFresh openings ls = Each (IsFreshLine openings) ls
