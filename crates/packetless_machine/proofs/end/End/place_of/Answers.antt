use Rattle.packetless_machine.proofs.Marks.{piece_past, request_past}
use Rattle.packetless_machine.proofs.end.End.place_of.Goals as goal

pub returns-clause-request : goal.returns-clause-request
returns-clause-request c =
    rw (← c.self.view_is, c.place_in-more.ensures.request, c.deref-2.ensures.value) (request_past _ _ _ _ c.args.n c.self.invariant.mark c.if-n-number.false)

pub returns-clause-piece : goal.returns-clause-piece
returns-clause-piece c =
    rw (← c.self.view_is, c.place_in-more.ensures.piece, c.deref-2.ensures.value) (piece_past _ _ _ _ c.args.n c.self.invariant.mark c.if-n-number.false)
