-- What is held between calls: the world, what arrived on each connection, and what is due.
use Rattle.std.specs.Prelude.{ℕ, ◌-◌, ◌&&◌, ◌==◌, Bool, false, true, List, [], length, replicate, slice_get, slice_set, Option, Some, None, nat_le, is_some, if◌then◌else◌}
use Rattle.rdma_types.specs.declared.names.Name.{Name}
use Rattle.rdma_types.specs.Limits.{most_bytes}
use Rattle.protocol.specs.State.{World}
use Rattle.protocol.specs.WorldStep.{carried_image}
use Rattle.mailbox_rules.specs.declared.due.Due.{Due}
use Rattle.mailbox_rules.specs.declared.due.Side.{Side}
use Rattle.mailbox_rules.specs.declared.due.Side.TheVariants.{AtReceiver, AtSender}
use Rattle.mailbox_rules.specs.declared.letters.Arrival.{Arrival}
use Rattle.mailbox_rules.specs.Opening.{opening_world, receiver, sender}

-- the connection of one sender
pub record Channel : Type 0 where
  pub arrived : List Arrival  -- arrived and not taken, in order
  pub receives : ℕ  -- messages that were copied: one for each polled completion of the receiver's receives with status 0
  pub reads : ℕ  -- bodies that were copied: one for each of its Reads
  pub slot_in_use : Bool  -- the body in the slot may still be fetched
  pub receiver_ended : Bool  -- a completion of that end with another status was polled, or a posting was refused TooMany
  pub sender_ended : Bool

-- the whole
pub record Mail : Type 0 where
  pub world : World
  pub channels : List Channel  -- of sender 1, sender 2, and so on
  pub owed : List Due  -- in order; none for a context that lives, unless a call ran out of memory

-- a connection before the first letter
abbrev pub fresh_channel : Channel
fresh_channel = record { arrived = []; receives = 0; reads = 0; slot_in_use = false; receiver_ended = false; sender_ended = false }

-- the beginning with so many senders, whose slots have so many bytes
abbrev pub made_with : ℕ → ℕ → Mail
made_with slot peers = record { world = opening_world slot peers; channels = replicate peers fresh_channel; owed = [] }

-- the beginning with so many senders
abbrev pub made : ℕ → Mail
made peers = made_with most_bytes peers

-- ---- finding and changing

-- senders have the numbers from 1 on
abbrev pub is_sender : Mail → ℕ → Bool
is_sender m i = nat_le 1 i && nat_le i (length m.channels)

-- a connection, or a fresh one
abbrev pub or_fresh : Option Channel → Channel
or_fresh None = fresh_channel
or_fresh (Some c) = c

-- the connection of sender i
abbrev pub channel : Mail → ℕ → Channel
channel m i = or_fresh (slice_get m.channels (i - 1))

-- the connections with another one of sender i
abbrev pub with_there : Option Channel → List Channel → ℕ → (Channel → Channel) → List Channel
with_there None cs i change = cs
with_there (Some c) cs i change = slice_set cs (i - 1) (change c)

-- the same with a change of the connection of sender i, where there is one
abbrev pub with_channel : Mail → ℕ → (Channel → Channel) → Mail
with_channel m i change = record m { channels = with_there (slice_get m.channels (i - 1)) m.channels i change }

-- the same with another world
abbrev pub with_world : Mail → World → Mail
with_world m w = record m { world = w }

-- a completion of that end with an error was polled
abbrev pub has_ended : Side → Channel → Bool
has_ended AtReceiver c = c.receiver_ended
has_ended AtSender c = c.sender_ended

-- the connection where one was polled
abbrev pub ending : Side → Channel → Channel
ending AtReceiver c = record c { receiver_ended = true }
ending AtSender c = record c { sender_ended = true }

-- context 0 is the receiver, and context i sender i
abbrev pub context_at : ℕ → Name
context_at n = if n == 0 then receiver else sender n

-- a context is carried
abbrev pub is_away : World → ℕ → Bool
is_away w n = is_some (carried_image w (context_at n))
