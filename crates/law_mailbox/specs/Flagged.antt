-- An end counts as ended only where it is in Error, or where so many letters were sent that its packet numbers may be used up.
use Rattle.std.specs.Prelude.{ℕ, ◌≡◌, ◌≤◌, ◌^◌, List, length, Bool, true, ◌⊎◌}
use Rattle.rdma_types.specs.declared.names.ObjName.{ObjName}
use Rattle.protocol.specs.State.{World}
use Rattle.law_simulation.specs.Views.{link_of}
use Rattle.mailbox_rules.specs.declared.letters.Letter.{Letter}
use Rattle.mailbox_rules.specs.Histories.{Turn, sent_letters}
use Rattle.mailbox_rules.specs.Opening.{receiver_end, sender_end}
use Rattle.mailbox_rules.specs.State.{Mail, channel, made}
use Rattle.mailbox_rules.specs.Theorem.{IsReached}

-- an end, live or carried, is in Error
abbrev pub has_failed : World → ObjName → Bool
has_failed w o = (link_of w o).ended

-- with fewer letters than these no end's packet numbers are used up
abbrev pub most_letters : ℕ
most_letters = 2 ^ 48

-- why an end counts as ended: it is in Error, or a posting may have been refused since its packet numbers were used up
abbrev pub IsOverSince : World → ObjName → List Letter → Type 0
IsOverSince w o sent = (has_failed w o ≡ true) ⊎ (most_letters ≤ length sent)

-- the flags of each connection
pub record AreFlagsTrue (peers : ℕ) (ts : List Turn) (m : Mail) : Type 0 where
  pub at_receiver : (i : ℕ) → 1 ≤ i → i ≤ peers → (channel m i).receiver_ended ≡ true → IsOverSince m.world (receiver_end i) (sent_letters i ts)
  pub at_sender : (i : ℕ) → 1 ≤ i → i ≤ peers → (channel m i).sender_ended ≡ true → IsOverSince m.world (sender_end i) (sent_letters i ts)

-- after any calls, whatever the network did
abbrev pub FlagsAreTrue : Type 0
FlagsAreTrue = (peers : ℕ) → 1 ≤ peers → peers ≤ 8 → (ts : List Turn) (m : Mail) → IsReached (made peers) ts m → AreFlagsTrue peers ts m
