use Rattle.law_orders.proofs.Askable.{askable}
use Rattle.law_orders.proofs.exactness.askable_is_tested.Goals as goal

pub returns : goal.returns
returns c = askable
