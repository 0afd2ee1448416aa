-- Letters are taken whole and in order: the first two claims of the theorem on letters.
use Rattle.std.specs.Prelude.{ℕ, ◌≤◌, List}
use Rattle.mailbox_rules.specs.Histories.{Turn}
use Rattle.mailbox_rules.specs.State.{Mail, made}
use Rattle.mailbox_rules.specs.Theorem.{IsReached}
use Rattle.law_mailbox.specs.Held.{IsAllKept, IsKeptThrough}
use Rattle.law_mailbox.specs.Ready.{IsReadyMail}

-- each kind of thing that happens keeps what is held, and that contexts consist of what the opening made and little is owed
abbrev pub AllIsKept : Type 0
AllIsKept = (peers : ℕ) → 1 ≤ peers → peers ≤ 8 → IsAllKept peers (IsReadyMail peers)

-- .. so after any calls from a beginning with 1 to 8 senders a letter that is taken is the first open one with the asked tag, whole;
-- and none is given exactly where its bytes are not here
abbrev pub LettersAreTakenWhole : Type 0
LettersAreTakenWhole = (peers : ℕ) → 1 ≤ peers → peers ≤ 8 → (ts : List Turn) (m : Mail) → IsReached (made peers) ts m → IsKeptThrough peers ts m
