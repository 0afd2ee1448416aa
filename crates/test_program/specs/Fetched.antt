-- A long letter is fetched from its sender while the receiver moves, and then the slot is free again.
use Rattle.std.specs.Prelude.{List, [], ◌∷◌, Some, None}
use Rattle.rdma_types.specs.declared.answers.Answer.TheVariants as answer
use Rattle.protocol.specs.declared.events.WorldEvent.TheVariants as world_event
use Rattle.mailbox_rules.specs.declared.faults.MailFault.TheVariants as fault
use Rattle.mailbox_rules.specs.Opening.{receiver}
use Rattle.mailbox_rules.specs.Calls.{Call, Send, Take, Work, Network, Settle, Reply, IsSent, IsWorked, Answers, Gives, IsQuiet, Refused}
use Rattle.test_program.specs.TwoLetters.{letter, long_body}

-- the calls
abbrev pub script : List Call
script =
    Send 1 3 long_body
    ∷ Settle
    ∷ Take 1 None
    ∷ Network (world_event.Stop receiver)
    ∷ Network (world_event.Restore receiver 3)
    ∷ Send 1 4 long_body
    ∷ Send 1 4 (7 ∷ [])
    ∷ Settle
    ∷ Network (world_event.Release receiver 1)
    ∷ Work
    ∷ Settle
    ∷ Take 1 (Some 4)
    ∷ Take 1 None
    ∷ Send 1 4 long_body
    ∷ []

-- what they are answered, in order
abbrev pub replies : List Reply
replies =
    IsSent
    ∷ IsQuiet 2 []
    ∷ Gives None
    ∷ Answers answer.Stopped
    ∷ Answers answer.Done
    ∷ Refused fault.Full
    ∷ IsSent
    ∷ IsQuiet 3 []
    ∷ Answers answer.Done
    ∷ IsWorked
    ∷ IsQuiet 2 []
    ∷ letter 4 (7 ∷ [])
    ∷ letter 3 long_body
    ∷ IsSent
    ∷ []
