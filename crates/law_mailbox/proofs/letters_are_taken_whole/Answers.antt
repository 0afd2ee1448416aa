use Rattle.law_mailbox.proofs.settling.Whole.{taken_whole}
use Rattle.law_mailbox.proofs.letters_are_taken_whole.Goals as goal

pub returns : goal.returns
returns c = taken_whole c.all_is_kept.ensures c.keeping_is_enough.ensures
