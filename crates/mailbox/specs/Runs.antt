-- What lists of calls leave, and how many letters they send and take.
use Rattle.std.specs.Prelude.{ℕ, ◌≡◌, Bool, false, List, Option, Some, None, if◌then◌else◌}
use Rattle.mailbox_rules.specs.declared.faults.MailFault.{MailFault}
use Rattle.mailbox_rules.specs.declared.faults.MailFault.TheVariants as fault
use Rattle.mailbox_rules.specs.State.{Mail}
use Rattle.mailbox_rules.specs.Calls.{After, Call, IsSent, Refused, Reply, after, replies_of}
use Rattle.mailbox_rules.specs.Command.{is_given, is_sent, letters_sent, letters_taken}
use Rattle.mailbox.specs.Steps.{Shows}

-- these calls lead to this, and so many letters are sent and taken by them
pub record Runs (new : Mail) (sent taken : ℕ) (m : Mail) (cs : List Call) : Type 0 where
  pub shown : Shows new (after m cs)
  pub sent_is : letters_sent (replies_of m cs) ≡ sent
  pub taken_is : letters_taken (replies_of m cs) ≡ taken

-- .. of each state that is shown
abbrev pub IsRun : Mail → Mail → ℕ → ℕ → (Mail → List Call) → Type 0
IsRun old new sent taken cs = (m : Mail) → Shows old m → Runs new sent taken m (cs m)

-- a letter counts where it was sent
abbrev pub count_of : Bool → ℕ
count_of sent = if sent then 1 else 0

-- what a sending is answered
abbrev pub send_reply : Option MailFault → Reply
send_reply None = IsSent
send_reply (Some why) = Refused why

-- a call was refused, and not cut off
abbrev pub IsRefusal : MailFault → Type 0
IsRefusal fault.OutOfMemory = ⊥
IsRefusal f = Unit {0}

-- a letter was given, or none
pub record IsGivenOrNot (new : Mail) (given : Bool) (a : After) : Type 0 where
  pub given_is : is_given a.reply ≡ given
  pub not_sent : is_sent a.reply ≡ false
  pub shown : Shows new a.mail
