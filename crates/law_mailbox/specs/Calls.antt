-- What is held is kept by work and by calls.
use Rattle.std.specs.Prelude.{ℕ, ◌≡◌, ◌≤◌, List, [], ◌∷◌, ◌++◌, length, true, None, ◌⊎◌}
use Rattle.rdma_types.specs.declared.answers.Answer.TheVariants.{Done}
use Rattle.mailbox_rules.specs.declared.letters.Letter.{Letter}
use Rattle.mailbox_rules.specs.Calls.{Send, message_of, posts_letter, send_event, send_fault, staged}
use Rattle.mailbox_rules.specs.Histories.{Turn}
use Rattle.mailbox_rules.specs.State.{Mail}
use Rattle.mailbox_rules.specs.Wanting.{IsPartlyStored}
use Rattle.mailbox_rules.specs.Working.{asking, begun, is_too_many, worked, working}
use Rattle.law_mailbox.specs.Held.{IsHeld, MayBeSent}

-- by any number of steps of work
abbrev pub WorksAreKept : Type 0
WorksAreKept = (peers : ℕ) → peers ≤ 8 → (ts : List Turn) (m : Mail) (n : ℕ) → IsHeld peers ts m → IsHeld peers ts (worked n (begun m)).mail

-- by a letter that is stored in part, or that is stored and not posted
abbrev pub StoresAreKept : Type 0
StoresAreKept = (peers : ℕ) → peers ≤ 8 → (ts : List Turn) (m : Mail) (i : ℕ) (l : Letter) (m' : Mail) → MayBeSent l → IsHeld peers ts m → send_fault (working m) i l.body ≡ None → IsPartlyStored (working m) i l m' →
    IsHeld peers ts m'

-- the posting of a stored letter is answered Done, or it is refused since the packet numbers are used up, which ends the end
abbrev pub IsSendAnswered : Mail → ℕ → Letter → Type 0
IsSendAnswered m i l = ((asking (staged m i l) (send_event i (length (message_of i l)))).answer ≡ Done) ⊎ (is_too_many (asking (staged m i l) (send_event i (length (message_of i l)))).answer ≡ true)

-- by a letter that is stored and posted, where the posting is answered so
abbrev pub SendsAreKept : Type 0
SendsAreKept = (peers : ℕ) → peers ≤ 8 → (ts : List Turn) (m : Mail) (i : ℕ) (l : Letter) → MayBeSent l → IsHeld peers ts m → send_fault (working m) i l.body ≡ None → IsSendAnswered (working m) i l →
    IsHeld peers (ts ++ record { call = Send i l.tag l.body; reply = (posts_letter (working m) i l).reply } ∷ []) (posts_letter (working m) i l).mail
