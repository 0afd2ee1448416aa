-- A worked example: one sender sends a letter, and what a caller sees of settling and working three times then are the premises under
-- which that letter is delivered.
use Rattle.std.specs.Prelude.{List, [], ◌∷◌}
use Rattle.mailbox_rules.specs.Calls.{Call, IsSent, Send, after, settled_thrice}
use Rattle.mailbox_rules.specs.Histories.{Turn}
use Rattle.mailbox_rules.specs.State.{Mail, made}
use Rattle.law_mailbox.specs.Delivered.{IsDelivered, IsSeenCalm}

-- a letter with tag 7
abbrev pub one_call : Call
one_call = Send 1 7 (104 ∷ 105 ∷ [])

abbrev pub one_turn : List Turn
one_turn = record { call = one_call; reply = IsSent } ∷ []

-- after it, from the beginning with one sender
abbrev pub one_sent : Mail
one_sent = after (made 1) (one_call ∷ [])

-- the premises are met
abbrev pub OneLetterIsSeenCalm : Type 0
OneLetterIsSeenCalm = IsSeenCalm one_sent one_turn 1

-- .. so the letter is delivered
abbrev pub OneLetterIsDelivered : Type 0
OneLetterIsDelivered = IsDelivered (after one_sent settled_thrice) one_turn 1
