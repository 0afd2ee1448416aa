-- Work runs out of memory when the receiver was polled, and the receiver is stopped before the message is copied: it is copied
-- once the receiver lives again.
use Rattle.std.specs.Prelude.{List, [], ◌∷◌, None}
use Rattle.rdma_types.specs.declared.answers.Answer.TheVariants as answer
use Rattle.protocol.specs.declared.events.WorldEvent.TheVariants as world_event
use Rattle.mailbox_rules.specs.Opening.{receiver}
use Rattle.mailbox_rules.specs.Calls.{Call, Send, Take, Network, Settle, Reply, Answers, Gives}
use Rattle.test_program.specs.TwoLetters.{letter}

-- the calls before
abbrev pub before : List Call
before = Send 1 5 (170 ∷ []) ∷ Settle ∷ []

-- and after work was cut off
abbrev pub script : List Call
script =
    Network (world_event.Stop receiver)
    ∷ Take 1 None
    ∷ Network (world_event.Restore receiver 3)
    ∷ Take 1 None
    ∷ []

-- what these are answered, in order
abbrev pub replies : List Reply
replies =
    Answers answer.Stopped
    ∷ Gives None
    ∷ Answers answer.Done
    ∷ letter 5 (170 ∷ [])
    ∷ []
