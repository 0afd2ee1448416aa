-- A letter that is stored or posted leaves what is owed as it is.
use Rattle.std.proofs.Common.{◌≡◌, ◌∙◌, ℕ, length, true, false, Bool, refl}
use Rattle.std.specs.Prelude.{if◌then◌else◌}
use Rattle.mailbox_rules.specs.declared.letters.Letter.{Letter}
use Rattle.mailbox_rules.specs.Calls.{IsSent, Refused, posts_letter, replies, send_event, sending, sent_by, staged, storing, message_of}
use Rattle.mailbox_rules.specs.declared.faults.MailFault.TheVariants as fault
use Rattle.mailbox_rules.specs.declared.due.Side.TheVariants.{AtSender}
use Rattle.mailbox_rules.specs.Letters.{is_rendezvous}
use Rattle.mailbox_rules.specs.Opening.{slot_address}
use Rattle.mailbox_rules.specs.State.{Mail, ending, with_channel}
use Rattle.mailbox_rules.specs.Wanting.{AllStored, BodyStored, IsPartlyStored, NotStored}
use Rattle.mailbox_rules.specs.Working.{Asked, asking, is_too_many, posted}

staged_owed : (m : Mail) (i : ℕ) (l : Letter) → (staged m i l).owed ≡ m.owed
unfolding asking
staged_owed m i l = by (is_rendezvous l.body)
  where
    by : (b : Bool) → (if b then storing m i slot_address l.body else m).owed ≡ m.owed
    by true = refl
    by false = refl

pub stored_owed : (m : Mail) (i : ℕ) (l : Letter) (m' : Mail) → IsPartlyStored m i l m' → m'.owed ≡ m.owed
unfolding asking
stored_owed m i l m' NotStored = refl
stored_owed m i l m' (BodyStored long) = refl
stored_owed m i l m' AllStored = staged_owed m i l

ended_owed : (i : ℕ) (a : Asked) (t : Bool) → (if t then with_channel a.mail i (ending AtSender) else a.mail).owed ≡ a.mail.owed
ended_owed i a true = refl
ended_owed i a false = refl

sent_owed : (i : ℕ) (l : Letter) (a : Asked) → (sent_by i l a).mail.owed ≡ a.mail.owed
sent_owed i l a = by (is_too_many a.answer)
  where
    by : (b : Bool) → (if b then replies (posted a AtSender i) (Refused fault.Ended) else replies (with_channel (posted a AtSender i) i (sending l)) IsSent).mail.owed ≡ a.mail.owed
    by true = ended_owed i a (is_too_many a.answer)
    by false = ended_owed i a (is_too_many a.answer)

pub posted_owed : (m : Mail) (i : ℕ) (l : Letter) → (posts_letter m i l).mail.owed ≡ m.owed
unfolding posts_letter asking
posted_owed m i l = sent_owed i l (asking (staged m i l) (send_event i (length (message_of i l)))) ∙ staged_owed m i l
