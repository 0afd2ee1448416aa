use Rattle.std.proofs.Common.{sym, subst}
use Rattle.requester.specs.Sending.{AreInOrder, bares, sender_with}
use Rattle.context_core.proofs.LinksFromImage.{order-after}
use Rattle.context_core.proofs.links.link_of.Goals as goal

pub from_parts-requires-clause-order : goal.from_parts-requires-clause-order
from_parts-requires-clause-order c = subst (λ n. AreInOrder c.args.link.now.terms (sender_with (bares c.args.queue.items) n)) (sym c.numbers_of.ensures) (order-after c.args.image.now c.args.end.now c.args.link.now c.args.queue.items c.requires.lawful c.requires.requests)
