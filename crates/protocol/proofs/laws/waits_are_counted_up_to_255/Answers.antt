use Rattle.protocol.proofs.Waits.{counted, stays}
use Rattle.protocol.proofs.laws.waits_are_counted_up_to_255.Goals as goal

pub returns-clause-counted : goal.returns-clause-counted
returns-clause-counted c = counted

pub returns-clause-stays : goal.returns-clause-stays
returns-clause-stays c = stays
