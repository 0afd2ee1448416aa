use Rattle.std.proofs.Common.{arith, refl}
use Rattle.law_orders.proofs.Askable.{bytes_typed}
use Rattle.law_orders.proofs.asked.are_bytes.Goals as goal

pub returns : goal.returns
returns c = bytes_typed c.args.bytes.now _ (λ k. let fits = c.type_inv.bytes k in omega arith) refl
