-- What calls keep beside what is held, and a letter that is posted needs.
use Rattle.std.specs.Prelude.{ℕ, List}
use Rattle.protocol.specs.State.{World}
use Rattle.mailbox_rules.specs.declared.due.Due.{Due}
use Rattle.mailbox_rules.specs.State.{Mail}
use Rattle.law_mailbox.specs.Answered.{IsFurnishedFor}
use Rattle.law_mailbox.specs.Short.{IsLittle}

-- the contexts consist of what the opening made, and little is owed
pub record IsReady (peers : ℕ) (w : World) (owed : List Due) : Type 0 where
  pub furnished : IsFurnishedFor peers w
  pub little : IsLittle peers owed

abbrev pub IsReadyMail : ℕ → Mail → Type 0
IsReadyMail peers m = IsReady peers m.world m.owed
