-- A sender that is carried, one whose retries are spent, and an event that is not of the network.
use Rattle.std.specs.Prelude.{List, [], ◌∷◌, ◌++◌, Some, None}
use Rattle.rdma_types.specs.declared.answers.Answer.TheVariants.{Expired, Sent, Stopped, Done, Spent}
use Rattle.protocol.specs.declared.events.Event.TheVariants as event
use Rattle.protocol.specs.declared.events.WorldEvent.TheVariants as world_event
use Rattle.mailbox_rules.specs.declared.faults.MailFault.TheVariants as fault
use Rattle.mailbox_rules.specs.Opening.{object, queue_name, sender, sender_end}
use Rattle.mailbox_rules.specs.Calls.{Call, Send, Take, Network, Settle, Reply, IsSent, Answers, Gives, IsQuiet, Refused}

-- the sender transmits, and its retransmission timeout is counted
abbrev pub goes_and_expires : List Call
goes_and_expires = Network (world_event.At (event.Transmit (sender_end 1))) ∷ Network (world_event.At (event.Expire (sender_end 1))) ∷ []

-- the calls
abbrev pub script : List Call
script =
    Network (world_event.Stop (sender 1))
    ∷ Send 1 5 (170 ∷ [])
    ∷ Network (world_event.Restore (sender 1) 3)
    ∷ Network (world_event.Release (sender 1) 2)
    ∷ Settle
    ∷ Network (world_event.At (event.Poll (object (sender 1) queue_name) 1))
    ∷ Send 1 5 (170 ∷ [])
    ∷ goes_and_expires ++ (goes_and_expires ++ (goes_and_expires ++ (goes_and_expires
    ++ (goes_and_expires ++ (goes_and_expires ++ (goes_and_expires ++ (goes_and_expires
    ++ (Send 1 5 (170 ∷ []) ∷ Settle ∷ Take 1 None ∷ []))))))))

-- what they are answered, in order
abbrev pub replies : List Reply
replies =
    Answers Stopped
    ∷ Refused fault.Moving
    ∷ Answers Done
    ∷ Answers Done
    ∷ IsQuiet 2 []
    ∷ Refused fault.NotNetwork
    ∷ IsSent
    ∷ Answers (Sent 3)
    ∷ Answers (Expired 1)
    ∷ Answers (Sent 4)
    ∷ Answers (Expired 2)
    ∷ Answers (Sent 5)
    ∷ Answers (Expired 3)
    ∷ Answers (Sent 6)
    ∷ Answers (Expired 4)
    ∷ Answers (Sent 7)
    ∷ Answers (Expired 5)
    ∷ Answers (Sent 8)
    ∷ Answers (Expired 6)
    ∷ Answers (Sent 9)
    ∷ Answers (Expired 7)
    ∷ Answers (Sent 10)
    ∷ Answers Spent
    ∷ Refused fault.Ended
    ∷ IsQuiet 1 []
    ∷ Gives (Some (record { tag = 5; body = 170 ∷ [] }))
    ∷ []
