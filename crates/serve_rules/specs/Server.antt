-- A served device: its state, and steps of it whose datagrams wait to leave (this project's choice).
use Rattle.std.specs.Prelude.{ℕ, ◌==◌, Bool, true, false, List, [], ◌∷◌, ◌++◌, length, nat_eq, Option, Some, None, if◌then◌else◌}
use Rattle.std.specs.List.{list_any}
use Rattle.std.specs.Map.{lookup}
use Rattle.indexmap.specs.IndexMap.{insert_entry, shift_remove_entry}
use Rattle.host_ports.specs.Links.{Addressed}
use Rattle.protocol.specs.declared.events.Event.{Event}
use Rattle.protocol.specs.declared.images.Outcome.{Outcome}
use Rattle.protocol.specs.DeviceStep.{device_step}
use Rattle.protocol.specs.State.{Device, no_device}
use Rattle.rdma_types.specs.declared.answers.EndView.{EndView}
use Rattle.rdma_types.specs.declared.answers.Sent.{Sent}
use Rattle.rdma_types.specs.declared.names.Name.{Name}
use Rattle.rdma_types.specs.declared.requests.Address.{Address}
use Rattle.serve_rules.specs.declared.tallies.Tallies.{Tallies}
use Rattle.serve_rules.specs.declared.timers.Due.{Due}
use Rattle.serve_rules.specs.declared.timers.Timer.{Timer}
use Rattle.serve_rules.specs.declared.waiting.Pending.{Pending}
use Rattle.serve_rules.specs.declared.waiting.Pending.TheVariants as pending
use Rattle.serve_rules.specs.Tallies.{none_counted, with_made}
use Rattle.serve_rules.specs.Timers as timers

-- the state of a run
pub record Server : Type 0 where
  pub device : Device
  pub base : ℕ  -- the base of the timers
  pub clock : ℕ  -- the clock's last answer
  pub timers : List (ℕ × Timer)  -- of queue pairs, by their numbers
  pub ready : List ℕ  -- the numbers of queue pairs that may have something to send
  pub inbox : List Addressed  -- datagrams that were taken and have not arrived yet, the oldest first
  pub outgoing : List Sent  -- datagrams that wait to leave, the oldest first
  pub gone : List (Name × ℕ)  -- the numbers of queue pairs that left from here, each with its context
  pub pending : Pending  -- what the next line waits for
  pub tallies : Tallies

-- at the beginning: a device with that id and address and nothing on it
abbrev pub new_server : ℕ → Address → ℕ → Server
new_server id own base = record {
  device = record no_device { id = id; address = own };
  base = base;
  clock = 0;
  timers = [];
  ready = [];
  inbox = [];
  outgoing = [];
  gone = [];
  pending = pending.Line;
  tallies = none_counted;
}

-- ---- steps

-- the device after an event
unfoldable pub after : Server → Event → Server
after s e = record s { device = (device_step s.device e).device }

-- what the event gives
unfoldable pub outcome_of : Server → Event → Outcome
outcome_of s e = (device_step s.device e).outcome

-- datagrams wait behind the others
unfoldable pub queued : Server → List Sent → Server
queued s sent = record s { outgoing = s.outgoing ++ sent; tallies = with_made s.tallies (length sent) }

-- an event is stepped, and its datagrams wait
abbrev pub stepped : Server → Event → Server
stepped s e = queued (after s e) (outcome_of s e).sent

-- ---- who may send

-- the queue pair with that number may have something to send
unfoldable pub woken : Server → ℕ → Server
woken s n = if list_any (λ x. nat_eq x n) s.ready then s else record s { ready = s.ready ++ n ∷ [] }

-- .. where it is there
abbrev pub woken_view : Server → Option EndView → Server
woken_view s None = s
woken_view s (Some v) = woken s v.number

-- ---- timers

-- the timers of a queue pair, or none is set
abbrev pub timer_or : Option Timer → EndView → Timer
timer_or None v = timers.idle v
timer_or (Some t) v = t

-- the timers that are kept for a number
abbrev pub of_number : List (ℕ × Timer) → ℕ → Option Timer
of_number ts n = lookup (nat_eq n) ts

-- the timers of a queue pair
abbrev pub timer_of : Server → EndView → Timer
timer_of s v = timer_or (of_number s.timers v.number) v

-- no timers are kept for that number
abbrev pub without_timer : Server → ℕ → Server
without_timer s n = record s { timers = shift_remove_entry (nat_eq n) s.timers }

-- timers are kept, where one is set
unfoldable pub with_timer : Server → ℕ → Timer → Server
with_timer s n t = if timers.is_over t then without_timer s n else record s { timers = insert_entry nat_eq s.timers n t }

-- note is taken of what is told of a queue pair now
unfoldable pub observed : Server → EndView → Server
observed s v = with_timer s v.number (timers.observed (timer_of s v) v s.base s.clock)

-- a RESUME was sent
unfoldable pub resumed : Server → EndView → Server
resumed s v = with_timer s v.number (timers.resumed (timer_of s v) s.base s.clock)

-- the timer that was due is cleared
unfoldable pub spent : Server → EndView → Due → Server
spent s v d = with_timer s v.number (timers.spent (timer_of s v) d)

-- a queue pair may be asked to send
abbrev pub may_send : Server → EndView → Bool
may_send s v = timers.may_send (timer_of s v) v

-- which timer of a queue pair is due
abbrev pub due_of : Server → EndView → Due
due_of s v = timers.due_of (timer_of s v) s.clock
