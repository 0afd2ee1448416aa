-- The Send of a letter is answered Done, or refused since the packet numbers are used up, where the sender's queue was polled.
use Rattle.std.specs.Prelude.{ℕ, zero, suc, ◌≡◌, ◌+◌, ◌≤◌, List, [], ◌∷◌, ◌++◌, map, true, None}
use Rattle.rdma_types.specs.declared.names.Name.{Name}
use Rattle.rdma_types.specs.Limits.{most_bytes}
use Rattle.rdma_types.specs.Lists.{has_word}
use Rattle.protocol.specs.declared.events.WorldEvent.{WorldEvent}
use Rattle.protocol.specs.State.{World}
use Rattle.protocol.specs.WorldStep.{world_step}
use Rattle.packetless_machine.specs.Machine.{Context, Machine, context_of, has_context}
use Rattle.law_simulation.specs.Stands.{Stands}
use Rattle.mailbox_rules.specs.declared.letters.Letter.{Letter}
use Rattle.mailbox_rules.specs.Calls.{is_of_network, posts_letter, send_fault}
use Rattle.mailbox_rules.specs.Histories.{Turn}
use Rattle.mailbox_rules.specs.Opening.{end_name, numbered, place_bytes, queue_name, receiver, receiver_capacity, sender, sender_capacity}
use Rattle.mailbox_rules.specs.State.{Mail, made}
use Rattle.mailbox_rules.specs.Wanting.{IsPartlyStored}
use Rattle.mailbox_rules.specs.Working.{begun, worked}
use Rattle.law_mailbox.specs.Calls.{IsSendAnswered}
use Rattle.law_mailbox.specs.Held.{IsHeld, MayBeSent}
use Rattle.law_mailbox.specs.Room.{load}
use Rattle.law_mailbox.specs.Kept.{landing_offset, standing}

-- ---- what contexts consist of

-- the lengths of a context's regions, its completion queues with their capacities, and the names of its ends: these change only where
-- something is made or dropped
pub record Plan : Type 0 where
  pub regions : List ℕ
  pub queues : List Name
  pub capacities : List ℕ
  pub ends : List Name

abbrev pub plan_of : Context → Plan
plan_of c = record { regions = map (λ r. r.length) c.regions; queues = map (λ q. q.name) c.queues; capacities = map (λ q. q.capacity) c.queues; ends = map (λ e. e.name) c.ends }

-- those of connections 1 to n
abbrev pub for_each : {A : Type 0} → (ℕ → A) → ℕ → List A
for_each f zero = []
for_each f (suc n) = for_each f n ++ f (suc n) ∷ []

-- the receiver has a region and an end for each of n senders
abbrev pub receiver_plan : ℕ → Plan
receiver_plan n = record { regions = for_each (λ i. landing_offset + most_bytes) n; queues = queue_name ∷ []; capacities = receiver_capacity ∷ []; ends = for_each (numbered 113) n }

-- a sender has one region and one end
abbrev pub sender_plan : Plan
sender_plan = record { regions = (place_bytes + most_bytes) ∷ []; queues = queue_name ∷ []; capacities = sender_capacity ∷ []; ends = end_name ∷ [] }

-- the machine's contexts are the receiver and the senders, and each consists of what the opening made
pub record IsFurnished (peers : ℕ) (m : Machine) : Type 0 where
  pub contexts : (c : Name) → has_context m c ≡ true → has_word c (receiver ∷ for_each sender peers) ≡ true
  pub at_receiver : plan_of (context_of m receiver) ≡ receiver_plan peers
  pub at_sender : (i : ℕ) → 1 ≤ i → i ≤ peers → plan_of (context_of m (sender i)) ≡ sender_plan
  -- and the entries of each completion queue, and what is reserved of it, are within its capacity
  pub receiver_room : load m receiver queue_name ≤ receiver_capacity
  pub sender_room : (i : ℕ) → 1 ≤ i → i ≤ peers → load m (sender i) queue_name ≤ sender_capacity

-- the world stands for such a machine
pub record IsFurnishedFor (peers : ℕ) (w : World) : Type 0 where
  pub machine : Machine
  pub stands : Stands w machine
  pub furnished : IsFurnished peers machine

-- so it is before the first call
abbrev pub FirstIsFurnished : Type 0
FirstIsFurnished = (peers : ℕ) → 1 ≤ peers → peers ≤ 8 → IsFurnishedFor peers (made peers).world

-- after any event of the network
abbrev pub EventsLeaveFurnished : Type 0
EventsLeaveFurnished = (peers : ℕ) (w : World) (e : WorldEvent) → is_of_network e ≡ true → IsFurnishedFor peers w → IsFurnishedFor peers (world_step w e).world

-- after any number of steps of work
abbrev pub WorksLeaveFurnished : Type 0
WorksLeaveFurnished = (peers : ℕ) → peers ≤ 8 → (ts : List Turn) (m : Mail) (n : ℕ) → IsHeld peers ts m → IsFurnishedFor peers m.world → IsFurnishedFor peers (worked n (begun m)).mail.world

-- and after a letter is stored, or stored and posted
abbrev pub StoresLeaveFurnished : Type 0
StoresLeaveFurnished = (peers : ℕ) (m : Mail) (i : ℕ) (l : Letter) (m' : Mail) → MayBeSent l → IsPartlyStored m i l m' → IsFurnishedFor peers m.world → IsFurnishedFor peers m'.world

abbrev pub SendsLeaveFurnished : Type 0
SendsLeaveFurnished = (peers : ℕ) (m : Mail) (i : ℕ) (l : Letter) → MayBeSent l → IsFurnishedFor peers m.world → IsFurnishedFor peers (posts_letter m i l).mail.world

-- ---- a letter's Send

-- where no completion stands in the sender's queue, a letter that may be sent is stored, and its Send is answered Done or refused since
-- the packet numbers are used up: the end has room since fewer than 16 of its requests are untold, the queue has room for what is
-- reserved, and the device has pages
abbrev pub SendsAreAnswered : Type 0
SendsAreAnswered = (peers : ℕ) → peers ≤ 8 → (ts : List Turn) (m : Mail) (i : ℕ) (l : Letter) → MayBeSent l → (h : IsHeld peers ts m) → IsFurnishedFor peers m.world → standing h.machine (sender i) ≡ [] → send_fault m i l.body ≡ None →
    IsSendAnswered m i l
