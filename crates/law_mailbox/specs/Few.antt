-- Few completions stand in the receiver's queue, and few places of it are reserved: what makes work find room there.
use Rattle.std.specs.Prelude.{ℕ, ◌≡◌, ◌≤◌, ◌+◌, ◌*◌, ◌==◌, ◌&&◌, not, Bool, true, false, List, All, count_by, length}
use Rattle.rdma_types.specs.declared.requests.Completion.{Completion}
use Rattle.rdma_types.specs.declared.requests.WcKind.{WcKind}
use Rattle.rdma_types.specs.declared.requests.WcKind.TheVariants as wc_kind
use Rattle.packetless_machine.specs.declared.steps.MachineStep.{MachineStep}
use Rattle.packetless_machine.specs.Legal.{effect, is_enabled}
use Rattle.packetless_machine.specs.Machine.{End, Machine, end_of, untold_count, used_count}
use Rattle.law_simulation.specs.Stands.{Stands}
use Rattle.mailbox_rules.specs.declared.due.Due.{Due}
use Rattle.mailbox_rules.specs.declared.letters.Letter.{Letter}
use Rattle.mailbox_rules.specs.Histories.{Turn, fetched_before, sent_letters}
use Rattle.mailbox_rules.specs.Opening.{connection_of, depth, queue_name, receiver, receiver_end}
use Rattle.mailbox_rules.specs.State.{Channel, Mail, channel}
use Rattle.mailbox_rules.specs.Working.{begun, worked}
use Rattle.law_mailbox.specs.Answered.{IsFurnished}
use Rattle.law_mailbox.specs.Held.{AreAllKept, IsInner}
use Rattle.law_mailbox.specs.Kept.{bodies, copies, fetches, frees, reposts, standing}
use Rattle.law_mailbox.specs.Room.{load}

-- ---- on one connection

-- a completion of a receive, whatever its status
abbrev pub is_receive : WcKind → Bool
is_receive wc_kind.Recv = true
is_receive wc_kind.RecvImm = true
is_receive k = false

-- .. of a receive, and of a request, of the receiver's end for sender i
abbrev pub is_receive_of : ℕ → Completion → Bool
is_receive_of i x = (connection_of x.qp == i) && is_receive x.kind

abbrev pub is_request_of : ℕ → Completion → Bool
is_request_of i x = (connection_of x.qp == i) && not (is_receive x.kind)

-- the receiver's end for sender i, the completions that stand in the receiver's queue, and what is owed
pub record IsFewOn (i : ℕ) (e : End) (entries : List Completion) (owed : List Due) (c : Channel) (sent : List Letter) : Type 0 where
  -- each of the 16 receives is not used, or in use, or its completion stands, or its message is to be copied, or its place is to be
  -- posted again; or it is gone, since the end is over
  pub receives : count_by (is_receive_of i) entries + (used_count e.in_use + length e.unused) + (length (copies i owed) + length (reposts i owed)) ≤ depth
  -- its requests: completions that stand, requests that are not told, and those that are to be posted; a body that is to be copied
  -- counts twice, and bodies that were copied count against the long letters whose messages were copied
  pub requests : count_by (is_request_of i) entries + untold_count e + (length (fetches i owed) + length (frees i owed) + 2 * length (bodies i owed)) + c.reads ≤ fetched_before c.receives sent + 1

-- ---- on all connections

pub record AreFew (peers : ℕ) (ts : List Turn) (m : Mail) (machine : Machine) : Type 0 where
  pub each : (i : ℕ) → 1 ≤ i → i ≤ peers → IsFewOn i (end_of machine (receiver_end i)) (standing machine receiver) m.owed (channel m i) (sent_letters i ts)
  -- each completion in the receiver's queue is of one of the connections
  pub known : All (λ x. (1 ≤ connection_of x.qp) × (connection_of x.qp ≤ peers)) (standing machine receiver)

-- after these turns: the world stands for such a state
pub record IsHeldFew (peers : ℕ) (ts : List Turn) (m : Mail) : Type 0 where
  pub machine : Machine
  pub stands : Stands m.world machine
  pub senders : length m.channels ≡ peers
  pub all : AreAllKept peers ts m machine
  pub few : AreFew peers ts m machine

-- ---- what keeps it

-- an inner step of the machine: what it completes was reserved
abbrev pub StepsKeepFew : Type 0
StepsKeepFew = (peers : ℕ) (ts : List Turn) (m : Mail) (machine : Machine) (s : MachineStep) → IsInner s → is_enabled machine s ≡ true → AreAllKept peers ts m machine → AreFew peers ts m machine → AreFew peers ts m (effect machine s)

-- any number of steps of work: a poll empties the receiver's queue, and what it makes due is posted once
abbrev pub WorksKeepFew : Type 0
WorksKeepFew = (peers : ℕ) → peers ≤ 8 → (ts : List Turn) (m : Mail) (n : ℕ) → IsHeldFew peers ts m → IsHeldFew peers ts (worked n (begun m)).mail

-- ---- what follows

-- so few entries stand, and so few are reserved, that the receiver's queue has room
abbrev pub FewHaveRoom : Type 0
FewHaveRoom = (peers : ℕ) → peers ≤ 8 → (ts : List Turn) (m : Mail) (machine : Machine) → AreAllKept peers ts m machine → IsFurnished peers machine → AreFew peers ts m machine → load machine receiver queue_name ≤ 18 * peers
