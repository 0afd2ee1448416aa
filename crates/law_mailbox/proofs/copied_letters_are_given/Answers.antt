use Rattle.law_mailbox.proofs.settling.Given.{copied_given, none_full}
use Rattle.law_mailbox.proofs.copied_letters_are_given.Goals as goal

pub returns-clause-given : goal.returns-clause-given
returns-clause-given c = copied_given

pub returns-clause-room : goal.returns-clause-room
returns-clause-room c = none_full
