-- After any calls all is posted, and so everything is here after settling and working three times, where work finds room.
use Rattle.std.specs.Prelude.{ℕ, ◌≤◌, List}
use Rattle.mailbox_rules.specs.Histories.{Turn}
use Rattle.mailbox_rules.specs.State.{Mail, made}
use Rattle.mailbox_rules.specs.Theorem.{AllTakenAfterSettling, AreLettersKept, IsReached}
use Rattle.mailbox_rules.specs.Working.{begun, worked}
use Rattle.law_mailbox.specs.Finished.{HasRoomToPost, IsHeldOn}
use Rattle.law_mailbox.specs.Ready.{IsReadyMail}

-- after any calls work finds room in the receiver's queue all the while, where all is held and posted, contexts consist of what the
-- opening made and little is owed
abbrev pub WorkFindsRoom : ℕ → Type 0
WorkFindsRoom peers = (ts : List Turn) (m : Mail) → IsReached (made peers) ts m → IsHeldOn peers ts m → IsReadyMail peers m → (k : ℕ) → HasRoomToPost (worked k (begun m)).mail.world

-- what is true after any calls
pub record IsPostedThrough (peers : ℕ) (ts : List Turn) (m : Mail) : Type 0 where
  pub held : IsHeldOn peers ts m
  pub ready : IsReadyMail peers m

-- then all is held and posted after any calls from a beginning with 1 to 8 senders
abbrev pub AllIsPosted : Type 0
AllIsPosted = (peers : ℕ) → 1 ≤ peers → peers ≤ 8 → WorkFindsRoom peers → (ts : List Turn) (m : Mail) → IsReached (made peers) ts m → IsPostedThrough peers ts m

-- .. everything is here after settling and working three times
abbrev pub LettersAreHereAfterSettling : Type 0
LettersAreHereAfterSettling = (peers : ℕ) → 1 ≤ peers → peers ≤ 8 → WorkFindsRoom peers → (ts : List Turn) (m : Mail) → IsReached (made peers) ts m → AllTakenAfterSettling m ts

-- .. and letters are kept
abbrev pub LettersAreKeptWhereWorkFindsRoom : Type 0
LettersAreKeptWhereWorkFindsRoom = (peers : ℕ) → 1 ≤ peers → peers ≤ 8 → WorkFindsRoom peers → (ts : List Turn) (m : Mail) → IsReached (made peers) ts m → AreLettersKept m ts
