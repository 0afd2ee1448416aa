-- The postings of Reads and of Sends of no bytes that are due are made, unless the receiver's queue is full.
use Rattle.std.specs.Prelude.{ℕ, ◌≡◌, ◌≤◌, List, false, true, Some, slice_get}
use Rattle.rdma_types.specs.declared.requests.Kind.TheVariants as kind
use Rattle.rdma_types.specs.declared.requests.Request.{Request}
use Rattle.packetless_machine.specs.Machine.{Machine, end_of}
use Rattle.packetless_machine.specs.Verbs.{is_full, posted}
use Rattle.law_simulation.specs.Stands.{Stands}
use Rattle.protocol.specs.declared.events.Event.TheVariants as event
use Rattle.mailbox_rules.specs.declared.due.Due.TheVariants as due
use Rattle.mailbox_rules.specs.declared.due.Fetch.{Fetch}
use Rattle.mailbox_rules.specs.Histories.{Turn}
use Rattle.mailbox_rules.specs.Opening.{landing_address, queue_name, receiver, receiver_end, receiver_key, slot_address}
use Rattle.mailbox_rules.specs.State.{Mail, is_away}
use Rattle.mailbox_rules.specs.Working.{asking, is_too_many, request}
use Rattle.law_mailbox.specs.Held.{AreAllKept}

-- a request that is posted at the receiver's end of connection j: it is refused since the packet numbers are used up, and nothing is
-- posted; or it is posted
pub data IsMade (m : Mail) (machine : Machine) (j : ℕ) (r : Request) : Type 0 where
  UsedUp : is_too_many (asking m (event.PostSend (receiver_end j) r)).answer ≡ true → Stands (asking m (event.PostSend (receiver_end j) r)).mail.world machine → IsMade m machine j r
  IsPosted : is_too_many (asking m (event.PostSend (receiver_end j) r)).answer ≡ false → Stands (asking m (event.PostSend (receiver_end j) r)).mail.world (posted machine (receiver_end j) r) → IsMade m machine j r

-- what is held where something is posted at the receiver's end of connection j, which lives and whose queue has room
pub record MayPost (peers : ℕ) (ts : List Turn) (m : Mail) (machine : Machine) (j : ℕ) : Type 0 where
  pub stands : Stands m.world machine
  pub all : AreAllKept peers ts m machine
  pub from_one : 1 ≤ j
  pub within : j ≤ peers
  pub here : is_away m.world 0 ≡ false
  pub lives : (end_of machine (receiver_end j)).ended ≡ false
  pub room : is_full machine receiver queue_name ≡ false

-- the Read of a body that is due is posted, and so is a Send of no bytes
pub record ArePostingsMade (peers : ℕ) (ts : List Turn) (m : Mail) (machine : Machine) (j : ℕ) : Type 0 where
  pub read : (k : ℕ) (f : Fetch) → slice_get m.owed k ≡ Some (due.PostRead j f) → IsMade m machine j (request kind.Read (receiver_key j) (landing_address j) f.length slot_address f.rkey)
  pub free : (k : ℕ) → slice_get m.owed k ≡ Some (due.PostFree j) → IsMade m machine j (request kind.Send 0 0 0 0 0)

abbrev pub PostingsAreMade : Type 0
PostingsAreMade = (peers : ℕ) → peers ≤ 8 → (ts : List Turn) (m : Mail) (machine : Machine) (j : ℕ) → MayPost peers ts m machine j → ArePostingsMade peers ts m machine j
