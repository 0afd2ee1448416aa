-- A book opens with its device.
use Rattle.shared_device.proofs.Held.{held_nothing}
use Rattle.shared_device.proofs.book.Book.make.Goals as goal

pub invariant_of-result : goal.invariant_of-result
invariant_of-result c = held_nothing c.in_ok-opening.opening c.args.device c.new.result.items c.in_ok-opening.ensures c.new.ensures.items
