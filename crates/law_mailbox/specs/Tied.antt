-- What is counted of a connection is tied to what the packetless machine did: messages to the Sends that acted, and bodies to the Reads
-- that were told.
use Rattle.std.specs.Prelude.{ℕ, ◌≡◌, ◌≤◌, ◌<◌, ◌↔◌, List, true, false, Option, Some, None}
use Rattle.packetless_machine.specs.Machine.{End, Machine, end_of}
use Rattle.law_simulation.specs.Stands.{Stands}
use Rattle.mailbox_rules.specs.declared.letters.Letter.{Letter}
use Rattle.mailbox_rules.specs.Calls.{Gives, Take, calls}
use Rattle.mailbox_rules.specs.Histories.{Placed, Turn, fetched_before, first_wanted, placed_letters, sent_letters}
use Rattle.mailbox_rules.specs.Letters.{is_rendezvous}
use Rattle.mailbox_rules.specs.Opening.{receiver_end, sender_end}
use Rattle.mailbox_rules.specs.State.{Channel, Mail, channel, is_away, is_sender, made}
use Rattle.mailbox_rules.specs.Theorem.{IsReached}
use Rattle.mailbox_rules.specs.Working.{working}
use Rattle.law_mailbox.specs.Kept.{reads_in}

-- ---- how far a connection came

-- a message was copied only after its Send acted, and a body only after its Read was told; of an end in Error all Reads count as told
pub record IsNotAhead (c : Channel) (sender receiver : End) : Type 0 where
  pub messages : c.receives ≤ sender.acted
  pub bodies : c.reads ≤ reads_in receiver.told

-- .. and each message was copied whose Send acted, and unless the receiver's end is in Error each body whose Read was told
pub record IsLevel (c : Channel) (sender receiver : End) : Type 0 where
  pub messages : c.receives ≡ sender.acted
  pub bodies : receiver.ended ≡ false → c.reads ≡ reads_in receiver.told

-- ---- a letter

-- a letter has come: its Send acted, and where its body is fetched its Read was told
pub record HasCome (sender receiver : End) (sent : List Letter) (x : Placed) : Type 0 where
  pub acted : x.place < sender.acted
  pub told : is_rendezvous x.letter.body ≡ true → fetched_before x.place sent < reads_in receiver.told

-- there is no such letter, or it has not come
abbrev pub HasNotCome : End → End → List Letter → Option Placed → Type 0
HasNotCome sender receiver sent None = Unit {0}
HasNotCome sender receiver sent (Some x) = HasCome sender receiver sent x → ⊥

-- what `take` answers of sender i, by what the machine did
pub record IsTakenAsCame (m : Mail) (ts : List Turn) (i : ℕ) (sender receiver : End) : Type 0 where
  -- the first open letter with the asked tag, where it has come
  pub given : (tag : Option ℕ) (x : Placed) → first_wanted tag (placed_letters i ts) ≡ Some x → HasCome sender receiver (sent_letters i ts) x → (calls m (Take i tag)).reply ≡ Gives (Some x.letter)
  -- and none exactly where there is none, or it has not
  pub none : (tag : Option ℕ) → ((calls m (Take i tag)).reply ≡ Gives None) ↔ HasNotCome sender receiver (sent_letters i ts) (first_wanted tag (placed_letters i ts))

-- ---- after any calls, and work

-- the world stands for a state of the machine to which each connection is tied so
pub record AreTied (peers : ℕ) (ts : List Turn) (m : Mail) : Type 0 where
  pub machine : Machine
  pub stands : Stands (working m).world machine
  -- at all times nothing is copied too early
  pub not_ahead : (i : ℕ) → 1 ≤ i → i ≤ peers → IsNotAhead (channel (working m) i) (end_of machine (sender_end i)) (end_of machine (receiver_end i))
  -- where the receiver is not carried all is copied
  pub level : is_away (working m).world 0 ≡ false → (i : ℕ) → 1 ≤ i → i ≤ peers → IsLevel (channel (working m) i) (end_of machine (sender_end i)) (end_of machine (receiver_end i))
  -- .. so letters that came are given, unless the receiver's end is in Error
  pub taken : is_away (working m).world 0 ≡ false → (i : ℕ) → is_sender m i ≡ true → (end_of machine (receiver_end i)).ended ≡ false → IsTakenAsCame m ts i (end_of machine (sender_end i)) (end_of machine (receiver_end i))

abbrev pub CountsAreTied : Type 0
CountsAreTied = (peers : ℕ) → 1 ≤ peers → peers ≤ 8 → (ts : List Turn) (m : Mail) → IsReached (made peers) ts m → AreTied peers ts m
