-- The calls and the line of small plans.
use Rattle.mailbox_rules.specs.declared.plans.MailPlan.{MailPlan}

-- one sender, three letters and a move
abbrev pub small : MailPlan
small = record { seed = 7; peers = 1; letters = 3; moves = 1 }

-- two senders, five letters and two moves
abbrev pub larger : MailPlan
larger = record { seed = 7; peers = 2; letters = 5; moves = 2 }

-- two senders, six letters, of which one of 15,774 bytes, and a move
abbrev pub fetching : MailPlan
fetching = record { seed = 3; peers = 2; letters = 6; moves = 1 }
