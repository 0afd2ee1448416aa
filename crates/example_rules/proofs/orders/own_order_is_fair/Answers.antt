use Rattle.example_rules.proofs.OwnDevices.{fair}
use Rattle.example_rules.proofs.orders.own_order_is_fair.Goals as goal

pub returns : goal.returns
returns c = fair
