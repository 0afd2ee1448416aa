use Rattle.std.proofs.Common.{◌∙◌, ap, subst, length, arith}
use Rattle.std.specs.Prelude.{map}
use Rattle.protocol.specs.Images.{posted_of_image}
use Rattle.context_core.specs.Coming.{MayMove}
use Rattle.context_core.proofs.LinksFromImage.{requests-same}
use Rattle.context_core.proofs.links.endpoint_of.Goals as goal

pub link_of-requires-clause-requests : goal.link_of-requires-clause-requests
link_of-requires-clause-requests c = requests-same c.send_queue.new.pool c.in_ok-queue.queue.items c.args.end.now.untold (c.in_ok-queue.ensures.come.shown ∙ ap (map posted_of_image) c.as_slice-3.ensures)

pub link_of-requires-clause-moves : goal.link_of-requires-clause-moves
link_of-requires-clause-moves c = subst MayMove c.in-Some.is c.requires.moves

pub send_queue-requires-clause-room : goal.send_queue-requires-clause-room
send_queue-requires-clause-room c = omega (arith, ap length c.as_slice-3.ensures, c.from-depth.ensures, c.requires.lawful.untold_fit)
