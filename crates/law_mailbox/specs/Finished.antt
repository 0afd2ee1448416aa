-- After settling and working three times everything is here, where work does all that is due.
use Rattle.std.specs.Prelude.{ℕ, ◌≡◌, ◌≤◌, ◌<◌, List, [], ◌∷◌, ◌++◌, get_or, length, slice_get, true, false, Option, Some, None}
use Rattle.rdma_types.specs.declared.names.ObjName.{ObjName}
use Rattle.packetless_machine.specs.Machine.{Machine, end_of}
use Rattle.packetless_machine.specs.Verbs.{is_full}
use Rattle.protocol.specs.declared.events.WorldEvent.{WorldEvent}
use Rattle.protocol.specs.State.{World}
use Rattle.protocol.specs.WorldStep.{world_step}
use Rattle.law_simulation.specs.Stands.{Stands}
use Rattle.mailbox_rules.specs.declared.due.Due.{Due}
use Rattle.mailbox_rules.specs.declared.faults.MailFault.TheVariants as fault
use Rattle.mailbox_rules.specs.declared.letters.Letter.{Letter}
use Rattle.mailbox_rules.specs.Calls.{Refused, Settle, Work, after, is_of_network, sends, settled_thrice, takes, untold_at}
use Rattle.mailbox_rules.specs.Histories.{Placed, Turn, first_wanted, placed_letters, sent_letters}
use Rattle.mailbox_rules.specs.Opening.{queue_name, receiver}
use Rattle.mailbox_rules.specs.State.{Mail, channel, is_away, is_sender, made, with_world}
use Rattle.mailbox_rules.specs.Theorem.{AllTakenAfterSettling, IsGiven}
use Rattle.mailbox_rules.specs.Working.{begun, doing, may_be_done, most_steps, work_step, worked}
use Rattle.law_mailbox.specs.Arrived.{AreOpen, HasArrived}
use Rattle.law_mailbox.specs.Held.{AreAllKept, AreOfSenders, IsEndOf}
use Rattle.law_mailbox.specs.Kept.{IsOpened, dues_of, long_letters, sight_of, standing}
use Rattle.law_mailbox.specs.Settled.{IsPostedLine, Works}
use Rattle.law_mailbox.specs.Works.{Line}

-- ---- where all is copied

-- each open letter that is asked for is given
abbrev pub CopiedLettersAreGiven : Type 0
CopiedLettersAreGiven = (m : Mail) (i : ℕ) (sent : List Letter) (open' : List Placed) (tag : Option ℕ) → is_sender m i ≡ true → AreOpen sent open' → HasArrived (channel m i) sent open' →
    (channel m i).receives ≡ length sent → (channel m i).reads ≡ length (long_letters sent) → IsGiven (first_wanted tag open') (takes m i tag).reply

-- a sender that lives has no untold request, and its slot is free
abbrev pub HasRoom : Mail → ℕ → Type 0
HasRoom m i = is_sender m i ≡ true → is_away m.world i ≡ false → (untold_at m.world i ≡ 0) × ((channel m i).slot_in_use ≡ false)

-- then no letter is refused since an end or a slot is full
abbrev pub NoneIsFull : Type 0
NoneIsFull = (m : Mail) (i : ℕ) (l : Letter) → HasRoom m i → (sends m i l).reply ≡ Refused fault.Full → ⊥

-- ---- what is held between calls

-- connection i, as it is seen in a state of the machine, and what is held of it
abbrev pub line_of : Machine → Mail → List Turn → ℕ → Line
line_of machine m ts i = record { sight = sight_of machine m.owed i; channel = channel m i; sent = sent_letters i ts; open' = placed_letters i ts }

-- in this state of the machine each connection is kept, and all is posted
pub record IsHeldIn (peers : ℕ) (ts : List Turn) (m : Mail) (machine : Machine) : Type 0 where
  pub stands : Stands m.world machine
  pub senders : length m.channels ≡ peers
  pub all : AreAllKept peers ts m machine
  pub posted : (i : ℕ) → 1 ≤ i → i ≤ peers → IsPostedLine i (line_of machine m ts i)

-- ---- work

-- work led from m to m', as it is seen
pub record IsWorkSeen (peers : ℕ) (ts : List Turn) (m m' : Mail) (machine : Machine) : Type 0 where
  pub machine' : Machine
  pub stands : Stands m'.world machine'
  pub senders : length m'.channels ≡ length m.channels
  pub opened : (i : ℕ) → 1 ≤ i → i ≤ peers → IsOpened machine' i
  pub joined : (o : ObjName) → (end_of machine' o).connected ≡ true → IsEndOf peers o
  pub dues : AreOfSenders peers (m'.owed ++ dues_of 0 (standing machine' receiver))
  -- by things that were done on each connection, where no Read and no Send of no bytes was refused but at an end that is over
  pub works : (i : ℕ) → 1 ≤ i → i ≤ peers → Works i (line_of machine m ts i) (line_of machine' m' ts i)

-- ---- one thing that is due

-- the first thing that can be done is done, where the receiver's queue has room
abbrev pub DuesAreSeen : Type 0
DuesAreSeen = (peers : ℕ) → peers ≤ 8 → (ts : List Turn) (m : Mail) (machine : Machine) (k : ℕ) (d : Due) → IsHeldIn peers ts m machine → slice_get m.owed k ≡ Some d → may_be_done m.world d ≡ true →
    ((i : ℕ) → i < k → may_be_done m.world (get_or m.owed i d) ≡ false) → is_full machine receiver queue_name ≡ false → IsWorkSeen peers ts m (doing m k d) machine

-- ---- any steps of work

-- the receiver's queue has room
abbrev pub HasRoomToPost : World → Type 0
HasRoomToPost w = (machine : Machine) → Stands w machine → is_full machine receiver queue_name ≡ false

-- so many steps are seen, where the receiver's queue has room all the while
abbrev pub WorksAreSeen : Type 0
WorksAreSeen = (peers : ℕ) → peers ≤ 8 → (ts : List Turn) (m : Mail) (machine : Machine) (n : ℕ) → IsHeldIn peers ts m machine → ((k : ℕ) → HasRoomToPost (worked k (begun m)).mail.world) → IsWorkSeen peers ts m (worked n (begun m)).mail machine

-- ---- after settling and working three times

-- the receiver's queue has room while work is done, and work stops before its steps are used up
pub record WorkFinishes (m : Mail) : Type 0 where
  pub room : (k : ℕ) → HasRoomToPost (worked k (begun m)).mail.world
  pub stops : work_step (worked most_steps (begun m)) ≡ None

-- the work of the three rounds, and that of a call behind them
pub record AllWorkFinishes (m : Mail) : Type 0 where
  pub first : WorkFinishes (after m (Settle ∷ []))
  pub second : WorkFinishes (after m (Settle ∷ Work ∷ Settle ∷ []))
  pub third : WorkFinishes (after m (Settle ∷ Work ∷ Settle ∷ Work ∷ Settle ∷ []))
  pub last : WorkFinishes (after m settled_thrice)

-- it is enough that work finishes
abbrev pub FinishedWorkDeliversAll : Type 0
FinishedWorkDeliversAll = (peers : ℕ) → 1 ≤ peers → peers ≤ 8 → (ts : List Turn) (m : Mail) (machine : Machine) → IsHeldIn peers ts m machine → AllWorkFinishes m → AllTakenAfterSettling m ts

-- ---- what keeps it

-- held so, in some state of the machine
pub record IsHeldOn (peers : ℕ) (ts : List Turn) (m : Mail) : Type 0 where
  pub machine : Machine
  pub held : IsHeldIn peers ts m machine

-- at the beginning, with 1 to 8 senders
abbrev pub BeginsSo : Type 0
BeginsSo = (peers : ℕ) → 1 ≤ peers → peers ≤ 8 → IsHeldOn peers [] (made peers)

-- events of the network keep it, and so those of a settling
abbrev pub EventsKeepSo : Type 0
EventsKeepSo = (peers : ℕ) → (ts : List Turn) (m : Mail) (e : WorldEvent) → is_of_network e ≡ true → IsHeldOn peers ts m → IsHeldOn peers ts (with_world m (world_step m.world e).world)

-- and any steps of work
abbrev pub WorksKeepSo : Type 0
WorksKeepSo = (peers : ℕ) → peers ≤ 8 → (ts : List Turn) (m : Mail) (n : ℕ) → ((k : ℕ) → HasRoomToPost (worked k (begun m)).mail.world) → IsHeldOn peers ts m → IsHeldOn peers ts (worked n (begun m)).mail
