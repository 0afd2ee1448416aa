-- Two letters of different tags are taken out of order; a call is refused as there is no such sender, and another as the slot is
-- not free.
use Rattle.std.specs.Prelude.{ℕ, List, [], ◌∷◌, Some, None, replicate}
use Rattle.mailbox_rules.specs.declared.faults.MailFault.TheVariants as fault
use Rattle.mailbox_rules.specs.declared.letters.Letter.{Letter}
use Rattle.mailbox_rules.specs.Calls.{Call, Send, Take, Settle, Reply, IsSent, Gives, IsQuiet, Refused}

-- a body of 5,000 bytes, which is over what a Send carries
abbrev pub long_body : List ℕ
long_body = replicate 5000 204

-- the calls
abbrev pub script : List Call
script =
    Send 1 5 (170 ∷ [])
    ∷ Send 1 6 (187 ∷ [])
    ∷ Take 1 (Some 6)
    ∷ Settle
    ∷ Take 1 (Some 6)
    ∷ Take 1 None
    ∷ Take 1 None
    ∷ Send 2 0 []
    ∷ Send 1 0 long_body
    ∷ Send 1 0 long_body
    ∷ []

-- a letter that is given
abbrev pub letter : ℕ → List ℕ → Reply
letter tag body = Gives (Some (record { tag = tag; body = body }))

-- what they are answered, in order
abbrev pub replies : List Reply
replies =
    IsSent
    ∷ IsSent
    ∷ Gives None
    ∷ IsQuiet 2 []
    ∷ letter 6 (187 ∷ [])
    ∷ letter 5 (170 ∷ [])
    ∷ Gives None
    ∷ Refused fault.NoSender
    ∷ IsSent
    ∷ Refused fault.Full
    ∷ []

-- then one letter is open
abbrev pub open_letters : List Letter
open_letters = record { tag = 0; body = long_body } ∷ []
