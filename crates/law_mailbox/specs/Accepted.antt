-- When a letter is accepted: by what the packetless machine has of its connection, and where nothing stands against it.
use Rattle.std.specs.Prelude.{ℕ, ◌≡◌, ◌≤◌, ◌<◌, ◌↔◌, ◌⊎◌, List, length, true, false}
use Rattle.rdma_types.specs.Limits.{most_bytes}
use Rattle.packetless_machine.specs.Machine.{End, Machine, end_of, untold_count}
use Rattle.law_simulation.specs.Stands.{Stands}
use Rattle.mailbox_rules.specs.declared.faults.MailFault.TheVariants as fault
use Rattle.mailbox_rules.specs.declared.letters.Letter.{Letter}
use Rattle.mailbox_rules.specs.Calls.{IsSent, Refused, Send, calls}
use Rattle.mailbox_rules.specs.Histories.{Turn, sent_letters}
use Rattle.mailbox_rules.specs.Letters.{is_rendezvous}
use Rattle.mailbox_rules.specs.Opening.{depth, receiver_end, sender_end}
use Rattle.mailbox_rules.specs.State.{Mail, is_away, is_sender, made}
use Rattle.mailbox_rules.specs.Theorem.{IsReached, MayBeCalled}
use Rattle.mailbox_rules.specs.Working.{working}
use Rattle.law_mailbox.specs.Flagged.{most_letters}
use Rattle.law_mailbox.specs.Kept.{frees_in, long_letters}

-- nothing stands against a letter
pub record MayGo (m : Mail) (i : ℕ) (body : List ℕ) (sent : List Letter) (sender receiver : End) : Type 0 where
  pub known : is_sender m i ≡ true
  pub fits : length body ≤ most_bytes
  pub lives : is_away m.world i ≡ false  -- the sender is not carried
  pub room : untold_count sender < depth  -- fewer than 16 of its Sends are untold
  -- and for a body that is fetched, the Send of no bytes has acted that frees the slot from each long letter before
  pub slot : is_rendezvous body ≡ true → frees_in receiver.acted ≡ length (long_letters sent)

-- what `send` answers, after any calls, where m is what holds
pub record AreAccepted (peers : ℕ) (ts : List Turn) (m : Mail) : Type 0 where
  -- the world, after the work with which the call begins, stands for a state of the machine in which
  pub machine : Machine
  pub stands : Stands (working m).world machine
  -- a letter is accepted exactly where it may go, unless the sender's end is in Error or 2 ^ 48 letters were sent
  pub accepted : (i tag : ℕ) (body : List ℕ) → MayBeCalled (Send i tag body) → (end_of machine (sender_end i)).ended ≡ false → length (sent_letters i ts) < most_letters →
      ((calls m (Send i tag body)).reply ≡ IsSent) ↔ MayGo (working m) i body (sent_letters i ts) (end_of machine (sender_end i)) (end_of machine (receiver_end i))
  -- and `ended` is answered for these two alone
  pub ended : (i tag : ℕ) (body : List ℕ) → MayBeCalled (Send i tag body) → (calls m (Send i tag body)).reply ≡ Refused fault.Ended →
      ((end_of machine (sender_end i)).ended ≡ true) ⊎ (most_letters ≤ length (sent_letters i ts))

abbrev pub SendsAreAccepted : Type 0
SendsAreAccepted = (peers : ℕ) → 1 ≤ peers → peers ≤ 8 → (ts : List Turn) (m : Mail) → IsReached (made peers) ts m → AreAccepted peers ts m
