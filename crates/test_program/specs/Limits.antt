-- A body of 4,080 bytes comes with its header; one byte more, and it is fetched.
use Rattle.std.specs.Prelude.{List, [], ◌∷◌, None, replicate}
use Rattle.mailbox_rules.specs.Calls.{Call, Send, Take, Settle, Reply, IsSent, Gives, IsQuiet}
use Rattle.test_program.specs.TwoLetters.{letter}

-- the calls
abbrev pub script : List Call
script =
    Send 1 0 (replicate 4080 1)
    ∷ Settle
    ∷ Take 1 None
    ∷ Send 1 0 (replicate 4081 1)
    ∷ Settle
    ∷ Take 1 None
    ∷ Settle
    ∷ Take 1 None
    ∷ []

-- what they are answered, in order
abbrev pub replies : List Reply
replies =
    IsSent
    ∷ IsQuiet 2 []
    ∷ letter 0 (replicate 4080 1)
    ∷ IsSent
    ∷ IsQuiet 2 []
    ∷ Gives None
    ∷ IsQuiet 2 []
    ∷ letter 0 (replicate 4081 1)
    ∷ []
