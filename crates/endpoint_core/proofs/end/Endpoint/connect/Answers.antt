use Rattle.std.proofs.Common.{◌≡◌, ◌∙◌, Some, None, false, ap, rules}
use Rattle.protocol.specs.State.{fresh_link}
use Rattle.endpoint_core.specs.declared.end.EndLink.{EndLink}
use Rattle.endpoint_core.specs.Sites.{home}
use Rattle.endpoint_core.proofs.Connected.{connected, fresh-link, fresh-queue}
use Rattle.endpoint_core.proofs.Frames.{home-linked}
use Rattle.endpoint_core.proofs.end.Endpoint.connect.Goals as goal

pub returns-clause-step : goal.returns-clause-step
returns-clause-step c = λ s same ctx names at.
    let l : EndLink = record { peer = c.args.peer; terms = c.args.terms.now; ended = false; requester = c.make.result; responder = c.make-2.result; moves = c.make-3.result } in
    home-linked ctx names s l (fresh_link c.args.peer c.args.partner c.args.terms.now) at
    (fresh-link s.pool c.args.peer c.args.partner c.args.terms.now c.make.result c.make-2.result c.make-3.result c.in-Some.queue.depth c.make.ensures c.make-2.ensures c.make-3.ensures)
    ∙ ap (λ e. home ctx names (record s { end = record e { link = Some l } })) same

pub returns-clause-sound : goal.returns-clause-sound
returns-clause-sound c = λ pool held end.
    let e = c.args.self.now in
    let is : e.unlinked ≡ Some c.in-Some.queue = search rules in
    let gone : c.take.new.self ≡ None = search rules in
    connected pool held e c.in-Some.queue c.take.new.self c.args.peer c.args.terms.now c.make.result c.make-2.result c.make-3.result
    end (fresh-queue e c.in-Some.queue c.requires.queue is) gone c.requires.terms c.make.ensures c.make-2.ensures (c.soundness_stays.ensures.fresh held e.domain c.args.terms.now e.recvs.items)
