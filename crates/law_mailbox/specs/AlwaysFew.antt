-- After any calls few completions stand in the receiver's queue, so work finds room there.
use Rattle.std.specs.Prelude.{ℕ, ◌≤◌, List, []}
use Rattle.mailbox_rules.specs.Histories.{Turn}
use Rattle.mailbox_rules.specs.State.{Mail, made}
use Rattle.mailbox_rules.specs.Theorem.{IsReached}
use Rattle.law_mailbox.specs.Few.{IsHeldFew}
use Rattle.law_mailbox.specs.Reached.{WorkFindsRoom}

-- at the beginning, with 1 to 8 senders, none stands there
abbrev pub BeginningIsFew : Type 0
BeginningIsFew = (peers : ℕ) → 1 ≤ peers → peers ≤ 8 → IsHeldFew peers [] (made peers)

-- after any calls few stand there
abbrev pub QueueEntriesAreBounded : Type 0
QueueEntriesAreBounded = (peers : ℕ) → 1 ≤ peers → peers ≤ 8 → (ts : List Turn) (m : Mail) → IsReached (made peers) ts m → IsHeldFew peers ts m

-- .. so the work of each call finds room in the queue all the while
abbrev pub WorkAlwaysFindsRoom : Type 0
WorkAlwaysFindsRoom = (peers : ℕ) → 1 ≤ peers → peers ≤ 8 → WorkFindsRoom peers
