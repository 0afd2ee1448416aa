-- What is seen of an inner step of the machine: it moves each connection by some of the moves.
use Rattle.std.specs.Prelude.{ℕ, ◌≡◌, ◌≢◌, ◌≤◌, List, true, ◌⊎◌}
use Rattle.packetless_machine.specs.declared.steps.MachineStep.{MachineStep}
use Rattle.packetless_machine.specs.declared.steps.MachineStep.TheVariants as steps
use Rattle.packetless_machine.specs.Legal.{effect, is_enabled}
use Rattle.packetless_machine.specs.Machine.{Machine, end_of}
use Rattle.rdma_types.specs.declared.names.ObjName.{ObjName}
use Rattle.mailbox_rules.specs.declared.due.Due.{Due}
use Rattle.mailbox_rules.specs.declared.letters.Letter.{Letter}
use Rattle.mailbox_rules.specs.Histories.{Placed, Turn}
use Rattle.mailbox_rules.specs.Opening.{receiver, receiver_end, sender_end}
use Rattle.mailbox_rules.specs.State.{Channel, Mail}
use Rattle.law_mailbox.specs.Held.{AreAllKept, AreOfSenders, IsInner}
use Rattle.law_mailbox.specs.Kept.{IsKept, IsOpened, Sight, dues_of, sight_of, standing}
use Rattle.law_mailbox.specs.Moves.{MovesTo}

-- moves one after the other
pub data Moves (i : ℕ) (s : Sight) : Sight → Type 0 where
  Stays : Moves i s s
  Moved : {s' s'' : Sight} → Moves i s s' → MovesTo i s' s'' → Moves i s s''

-- connection i in two states of the machine
pub record IsSeen (i : ℕ) (owed : List Due) (machine machine' : Machine) : Type 0 where
  pub moves : Moves i (sight_of machine owed i) (sight_of machine' owed i)
  pub opened : IsOpened machine' i

-- all connections, which ends are connected, and that what the receiver's queue makes due is of one of them
pub record AreSeen (peers : ℕ) (owed : List Due) (machine machine' : Machine) : Type 0 where
  pub each : (i : ℕ) → 1 ≤ i → i ≤ peers → IsSeen i owed machine machine'
  pub joined : (o : ObjName) → (end_of machine' o).connected ≡ (end_of machine o).connected
  pub dues : AreOfSenders peers (dues_of 0 (standing machine receiver)) → AreOfSenders peers (dues_of 0 (standing machine' receiver))

-- each enabled inner step is seen so, where all is kept
abbrev pub StepsAreSeen : ℕ → Type 0
StepsAreSeen peers = (ts : List Turn) (m : Mail) (machine : Machine) (s : MachineStep) → IsInner s → is_enabled machine s ≡ true → AreAllKept peers ts m machine → AreSeen peers m.owed machine (effect machine s)

-- inner steps keep what is held
abbrev pub StepsKeep : ℕ → Type 0
StepsKeep peers = (ts : List Turn) (m : Mail) (machine : Machine) (s : MachineStep) → IsInner s → is_enabled machine s ≡ true → AreAllKept peers ts m machine → AreAllKept peers ts m (effect machine s)

-- .. where they are seen so
abbrev pub StepsSeenAsMovesKeep : Type 0
StepsSeenAsMovesKeep = (peers : ℕ) → StepsAreSeen peers → StepsKeep peers

-- ---- steps that move no bytes

-- an end of connection i
abbrev pub IsOf : ℕ → ObjName → Type 0
IsOf i o = (o ≡ sender_end i) ⊎ (o ≡ receiver_end i)

-- a step of an end of connection i that moves no bytes: it knows more of a request, its request meets no receive, an expiry or a wait is
-- counted or ends it, it learns of a refusal, its Read has its turn, or it tells a request
abbrev pub IsOwnStep : ℕ → MachineStep → Type 0
IsOwnStep i (steps.Known q bytes) = IsOf i q
IsOwnStep i (steps.Dry q) = IsOf i q
IsOwnStep i (steps.Expire q) = IsOf i q
IsOwnStep i (steps.Wait q) = IsOf i q
IsOwnStep i (steps.Bounce q) = IsOf i q
IsOwnStep i (steps.ReadTurn q) = q ≡ receiver_end i
IsOwnStep i (steps.Tell q) = IsOf i q
IsOwnStep i other = ⊥

-- these are seen as moves
abbrev pub OwnStepsAreSeen : Type 0
OwnStepsAreSeen = (i : ℕ) (m : Machine) (owed : List Due) (c : Channel) (sent : List Letter) (open' : List Placed) (s : MachineStep) →
    1 ≤ i → IsOpened m i → IsKept i (sight_of m owed i) c sent open' → IsOwnStep i s → is_enabled m s ≡ true → IsSeen i owed m (effect m s)

-- ---- steps that move bytes of Reads, and refusals

-- a step of an end of connection i that moves bytes of a Read: they are offered, or land; or a refusal of its request. Atomics have no
-- turn at its ends, and Reads none at its sender's end
abbrev pub IsReadStep : ℕ → MachineStep → Type 0
IsReadStep i (steps.Offer q k offset n) = IsOf i q
IsReadStep i (steps.Land q k) = IsOf i q
IsReadStep i (steps.Refuse q why) = IsOf i q
IsReadStep i (steps.Atom q) = IsOf i q
IsReadStep i (steps.ReadTurn q) = q ≡ sender_end i
IsReadStep i other = ⊥

-- these are seen as moves too
abbrev pub ReadStepsAreSeen : Type 0
ReadStepsAreSeen = (i : ℕ) (m : Machine) (owed : List Due) (c : Channel) (sent : List Letter) (open' : List Placed) (s : MachineStep) →
    1 ≤ i → IsOpened m i → IsKept i (sight_of m owed i) c sent open' → IsReadStep i s → is_enabled m s ≡ true → IsSeen i owed m (effect m s)

-- ---- a Run

-- a Run of an end of connection i
abbrev pub IsRunStep : ℕ → MachineStep → Type 0
IsRunStep i (steps.Run q n) = IsOf i q
IsRunStep i other = ⊥

-- it is seen as moves
abbrev pub RunStepsAreSeen : Type 0
RunStepsAreSeen = (i : ℕ) (m : Machine) (owed : List Due) (c : Channel) (sent : List Letter) (open' : List Placed) (s : MachineStep) →
    1 ≤ i → IsOpened m i → IsKept i (sight_of m owed i) c sent open' → IsRunStep i s → is_enabled m s ≡ true → IsSeen i owed m (effect m s)

-- ---- steps of another connection

-- these steps of an end of connection j, as they are seen of connection i
abbrev pub OtherStepsAreSeen : Type 0
OtherStepsAreSeen = (i j : ℕ) (m : Machine) (owed : List Due) (c : Channel) (sent : List Letter) (open' : List Placed) (s : MachineStep) →
    1 ≤ i → 1 ≤ j → i ≢ j → IsOpened m i → IsOpened m j → IsKept j (sight_of m owed j) c sent open' → IsOwnStep j s ⊎ (IsReadStep j s ⊎ IsRunStep j s) → is_enabled m s ≡ true → IsSeen i owed m (effect m s)

-- ---- all of them

-- with any number of senders
abbrev pub InnerStepsAreSeen : Type 0
InnerStepsAreSeen = (peers : ℕ) → StepsAreSeen peers

abbrev pub InnerStepsKeep : Type 0
InnerStepsKeep = (peers : ℕ) → StepsKeep peers
