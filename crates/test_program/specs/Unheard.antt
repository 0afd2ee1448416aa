-- A sender's end fails, and its context is carried before the failure is polled: settling leaves nothing, no error was polled,
-- and yet its letter does not come.
use Rattle.std.specs.Prelude.{ℕ, List, [], ◌∷◌, ◌++◌, None}
use Rattle.rdma_types.specs.declared.answers.Answer.TheVariants.{Done, Expired, Sent, Spent, Stopped}
use Rattle.protocol.specs.declared.events.Event.TheVariants as event
use Rattle.protocol.specs.declared.events.WorldEvent.TheVariants as world_event
use Rattle.mailbox_rules.specs.declared.letters.Letter.{Letter}
use Rattle.mailbox_rules.specs.Opening.{sender, sender_end}
use Rattle.mailbox_rules.specs.Calls.{Call, Send, Take, Network, Reply, IsSent, IsWorked, Answers, Gives, IsQuiet}
use Rattle.mailbox_rules.specs.Calls.{settled_thrice}

-- the sender transmits datagram k, which is lost, and its retransmission timeout is counted
abbrev pub loses : ℕ → List Call
loses k = Network (world_event.At (event.Transmit (sender_end 1))) ∷ Network (world_event.Lose k) ∷ Network (world_event.At (event.Expire (sender_end 1))) ∷ []

-- the calls
abbrev pub script : List Call
script =
    Send 1 5 (170 ∷ []) ∷ loses 1 ++ (loses 2 ++ (loses 3 ++ (loses 4 ++ (loses 5 ++ (loses 6 ++ (loses 7 ++ (loses 8
    ++ Network (world_event.Stop (sender 1)) ∷ settled_thrice ++ Take 1 None ∷ [])))))))

-- so many expiries are counted
abbrev pub counted : ℕ → List Reply
counted k = Answers (Sent k) ∷ Answers Done ∷ Answers (Expired k) ∷ []

-- what they are answered, in order
abbrev pub replies : List Reply
replies =
    IsSent ∷ counted 1 ++ (counted 2 ++ (counted 3 ++ (counted 4 ++ (counted 5 ++ (counted 6 ++ (counted 7
    ++ Answers (Sent 8) ∷ Answers Done ∷ Answers Spent
    ∷ Answers Stopped
    ∷ IsQuiet 1 [] ∷ IsWorked ∷ IsQuiet 1 [] ∷ IsWorked ∷ IsQuiet 1 [] ∷ IsWorked
    ∷ Gives None ∷ []))))))

-- the letter is open
abbrev pub open_letters : List Letter
open_letters = record { tag = 5; body = 170 ∷ [] } ∷ []
