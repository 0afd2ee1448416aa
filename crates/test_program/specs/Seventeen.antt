-- Seventeen letters, of which the end may have sixteen untold: a letter is refused as the end is full, and the receives are posted
-- again.
use Rattle.std.specs.Prelude.{List, [], ◌∷◌, ◌++◌, Some, None, replicate}
use Rattle.mailbox_rules.specs.declared.faults.MailFault.TheVariants as fault
use Rattle.mailbox_rules.specs.Calls.{Call, Send, Take, Settle, Reply, IsSent, Gives, IsQuiet, Refused}

-- the calls
abbrev pub script : List Call
script =
    replicate 16 (Send 1 2 (9 ∷ []))
    ++ Send 1 3 (8 ∷ [])
    ∷ Settle
    ∷ Send 1 3 (8 ∷ [])
    ∷ Settle
    ∷ Take 1 (Some 3)
    ∷ replicate 17 (Take 1 None)

-- a letter that is given
abbrev pub given : Reply
given = Gives (Some (record { tag = 2; body = 9 ∷ [] }))

-- what they are answered, in order
abbrev pub replies : List Reply
replies =
    replicate 16 IsSent
    ++ Refused fault.Full
    ∷ IsQuiet 2 []
    ∷ IsSent
    ∷ IsQuiet 2 []
    ∷ Gives (Some (record { tag = 3; body = 8 ∷ [] }))
    ∷ replicate 16 given
    ++ Gives None
    ∷ []
