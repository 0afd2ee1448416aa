-- All letters of a sender that were accepted are delivered, by what a caller sees: what settling answers, whether the receiver is carried,
-- and whether the two ends are in Error.
use Rattle.std.specs.Prelude.{ℕ, ◌≡◌, ◌≤◌, ◌<◌, List, [], ◌∷◌, length, true, false, Option}
use Rattle.mailbox_rules.specs.declared.faults.MailFault.TheVariants as fault
use Rattle.mailbox_rules.specs.Calls.{IsQuiet, Refused, Send, Settle, Take, Work, after, calls, settled_thrice}
use Rattle.mailbox_rules.specs.Histories.{Turn, first_wanted, placed_letters, sent_letters}
use Rattle.mailbox_rules.specs.Opening.{receiver_end, sender_end}
use Rattle.mailbox_rules.specs.State.{Mail, is_away, is_sender, made}
use Rattle.mailbox_rules.specs.Theorem.{IsGiven, IsReached}
use Rattle.law_mailbox.specs.Flagged.{has_failed, most_letters}

-- a settling answers that nothing is left
pub record SettlesQuietly (m : Mail) : Type 0 where
  pub rounds : ℕ
  pub answer : (calls m Settle).reply ≡ IsQuiet rounds []

-- what a caller sees of `settle` and `work` three times: each settling answers that nothing is left, and then the receiver is not carried
-- and neither end of sender i's connection is in Error; and fewer than 2 ^ 48 letters were sent from it. No flag is looked at, and no
-- other connection
pub record IsSeenCalm (m : Mail) (ts : List Turn) (i : ℕ) : Type 0 where
  pub first : SettlesQuietly m
  pub second : SettlesQuietly (after m (Settle ∷ Work ∷ []))
  pub third : SettlesQuietly (after m (Settle ∷ Work ∷ Settle ∷ Work ∷ []))
  pub receiver_lives : is_away (after m settled_thrice).world 0 ≡ false
  pub sender_fine : has_failed (after m settled_thrice).world (sender_end i) ≡ false
  pub receiver_fine : has_failed (after m settled_thrice).world (receiver_end i) ≡ false
  pub few : length (sent_letters i ts) < most_letters

-- each open letter of sender i that is asked for is given, and none of its letters is refused as Full
pub record IsDelivered (m : Mail) (ts : List Turn) (i : ℕ) : Type 0 where
  pub given : (tag : Option ℕ) → is_sender m i ≡ true → IsGiven (first_wanted tag (placed_letters i ts)) (calls m (Take i tag)).reply
  pub room : (tag : ℕ) (body : List ℕ) → (calls m (Send i tag body)).reply ≡ Refused fault.Full → ⊥

-- then all that was accepted from sender i is delivered
abbrev pub AllIsDelivered : Type 0
AllIsDelivered = (peers : ℕ) → 1 ≤ peers → peers ≤ 8 → (ts : List Turn) (m : Mail) → IsReached (made peers) ts m → (i : ℕ) → 1 ≤ i → i ≤ peers → IsSeenCalm m ts i → IsDelivered (after m settled_thrice) ts i
