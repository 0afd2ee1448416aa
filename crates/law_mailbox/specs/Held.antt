-- What is held between calls, and what each kind of call has to keep, so that letters are taken whole and in order.
use Rattle.std.specs.Prelude.{ℕ, ◌≡◌, ◌<◌, ◌≤◌, ◌^◌, List, [], ◌∷◌, ◌++◌, length, All, true, None}
use Rattle.rdma_types.specs.declared.names.ObjName.{ObjName}
use Rattle.packetless_machine.specs.declared.steps.MachineStep.{MachineStep}
use Rattle.packetless_machine.specs.declared.steps.MachineStep.TheVariants as steps
use Rattle.packetless_machine.specs.Legal.{effect, is_enabled}
use Rattle.packetless_machine.specs.Machine.{Machine, end_of}
use Rattle.law_simulation.specs.Stands.{Stands}
use Rattle.mailbox_rules.specs.declared.due.Due.{Due}
use Rattle.mailbox_rules.specs.declared.due.Due.TheVariants as due
use Rattle.mailbox_rules.specs.declared.letters.Letter.{Letter}
use Rattle.mailbox_rules.specs.Calls.{Call, Send, calls, posts_letter, send_fault}
use Rattle.mailbox_rules.specs.Histories.{Turn, placed_letters, sent_letters}
use Rattle.mailbox_rules.specs.Opening.{receiver, receiver_end, sender_end}
use Rattle.mailbox_rules.specs.State.{Mail, channel, made}
use Rattle.mailbox_rules.specs.Theorem.{IsReached, MayBeCalled, NoneExactlyWhere, TakesFirstWhole}
use Rattle.mailbox_rules.specs.Wanting.{IsCut, IsPartlyStored}
use Rattle.mailbox_rules.specs.Working.{begun, worked, working}
use Rattle.law_mailbox.specs.Kept.{IsKept, IsOpened, dues_of, sight_of, standing}

-- ---- what is held

-- an end of one of the connections
pub data IsEndOf (peers : ℕ) (o : ObjName) : Type 0 where
  AtSenderOf : (i : ℕ) → 1 ≤ i → i ≤ peers → o ≡ sender_end i → IsEndOf peers o
  AtReceiverOf : (i : ℕ) → 1 ≤ i → i ≤ peers → o ≡ receiver_end i → IsEndOf peers o

-- the connection on which a thing is due
abbrev pub connection_in : Due → ℕ
connection_in (due.CopyMessage i place length) = i
connection_in (due.Repost i place fetch) = i
connection_in (due.PostRead i fetch) = i
connection_in (due.CopyBody i length) = i
connection_in (due.PostFree i) = i
connection_in (due.FreeSlot i place) = i
connection_in (due.RepostAtSender i place) = i

-- each is due on one of the connections
abbrev pub AreOfSenders : ℕ → List Due → Type 0
AreOfSenders peers ds = All (λ d. (1 ≤ connection_in d) × (connection_in d ≤ peers)) ds

-- each connection is as it was opened, and kept, in a state of the packetless machine; and all that is owed, or is owed once the
-- receiver's queue is polled, is of one of them, since a thing that is due on another number would be done at an end with a like name
pub record AreAllKept (peers : ℕ) (ts : List Turn) (m : Mail) (machine : Machine) : Type 0 where
  pub opened : (i : ℕ) → 1 ≤ i → i ≤ peers → IsOpened machine i
  pub joined : (o : ObjName) → (end_of machine o).connected ≡ true → IsEndOf peers o  -- no other ends are connected
  pub kept : (i : ℕ) → 1 ≤ i → i ≤ peers → IsKept i (sight_of machine m.owed i) (channel m i) (sent_letters i ts) (placed_letters i ts)
  pub dues : AreOfSenders peers (m.owed ++ dues_of 0 (standing machine receiver))

-- after these turns: the world stands for such a state
pub record IsHeld (peers : ℕ) (ts : List Turn) (m : Mail) : Type 0 where
  pub machine : Machine
  pub stands : Stands m.world machine
  pub senders : length m.channels ≡ peers
  pub all : AreAllKept peers ts m machine

-- ---- what has to be kept

-- an inner step of the machine
abbrev pub IsInner : MachineStep → Type 0
IsInner (steps.Verb verb given) = ⊥
IsInner other = Unit {0}

-- a letter as the types of a call give it
pub record MayBeSent (l : Letter) : Type 0 where
  pub tag_fits : l.tag < 2 ^ 32
  pub bytes : All (λ b. b < 256) l.body

-- what is held is kept by each kind of thing that happens, and so is something else, which a letter that is posted may need
pub record IsAllKept (peers : ℕ) (Also : Mail → Type 0) : Type 0 where
  -- at the beginning
  pub begins : IsHeld peers [] (made peers)
  pub also_begins : Also (made peers)
  -- the other thing is kept by each call, also by one that is cut off
  pub also_called : (ts : List Turn) (m : Mail) (c : Call) → MayBeCalled c → IsHeld peers ts m → Also m → Also (calls m c).mail
  pub also_cut : (ts : List Turn) (m : Mail) (c : Call) (m' : Mail) → IsCut m c m' → MayBeCalled c → IsHeld peers ts m → Also m → Also m'
  -- by each enabled inner step of the machine
  pub steps : (ts : List Turn) (m : Mail) (machine : Machine) (s : MachineStep) → IsInner s → is_enabled machine s ≡ true → AreAllKept peers ts m machine → AreAllKept peers ts m (effect machine s)
  -- by any number of steps of work
  pub works : (ts : List Turn) (m : Mail) (n : ℕ) → IsHeld peers ts m → IsHeld peers ts (worked n (begun m)).mail
  -- by a letter that is stored and posted, after work
  pub sends : (ts : List Turn) (m : Mail) (i : ℕ) (l : Letter) → MayBeSent l → IsHeld peers ts m → Also m → send_fault (working m) i l.body ≡ None →
      IsHeld peers (ts ++ record { call = Send i l.tag l.body; reply = (posts_letter (working m) i l).reply } ∷ []) (posts_letter (working m) i l).mail
  -- .. and by one that is stored in part, or not posted
  pub stores : (ts : List Turn) (m : Mail) (i : ℕ) (l : Letter) (m' : Mail) → MayBeSent l → IsHeld peers ts m → send_fault (working m) i l.body ≡ None → IsPartlyStored (working m) i l m' →
      IsHeld peers ts m'

-- ---- what follows

-- after any calls it is held, and letters are taken whole and in order, and none exactly where its bytes are not here
pub record IsKeptThrough (peers : ℕ) (ts : List Turn) (m : Mail) : Type 0 where
  pub held : IsHeld peers ts m
  pub whole : TakesFirstWhole m ts
  pub none : NoneExactlyWhere m ts

-- it is enough that each kind of thing that happens keeps what is held
abbrev pub KeepingIsEnough : (ℕ → Mail → Type 0) → Type 0
KeepingIsEnough Also =
    (peers : ℕ) → IsAllKept peers (Also peers) → (ts : List Turn) (m : Mail) → IsReached (made peers) ts m → IsKeptThrough peers ts m
