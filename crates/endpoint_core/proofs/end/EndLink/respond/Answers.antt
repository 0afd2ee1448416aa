use Rattle.std.proofs.Common.{◌∙◌, ap, sym, subst}
use Rattle.roce_headers.specs.Packets.{packet}
use Rattle.requester.specs.Sending.{bares, sender_of}
use Rattle.endpoint_core.specs.Responded.{Lands}
use Rattle.endpoint_core.proofs.Answered.{sending-same, useless-taken}
use Rattle.endpoint_core.proofs.Answering.{response_row}
use Rattle.endpoint_core.proofs.end.EndLink.respond.Goals as goal

pub returns-then-is_useless-clause-useless_link : goal.returns-then-is_useless-clause-useless_link
returns-then-is_useless-clause-useless_link c = λ useless.
    let r = c.args.self.now.requester in
    let row = response_row r.terms (sender_of r) (packet c.args.d.now) c.requires.mtu in
    let same = row.useless (sym c.take_response-taken.ensures.answer ∙ useless-taken c.take_response-taken.result useless) in
    ap (λ x. record c.args.self.now { requester = x }) (sending-same r c.take_response-taken.new.self c.take_response-taken.ensures.kept (c.take_response-taken.ensures.numbers ∙ same))

pub land_taken-requires-clause-lands : goal.land_taken-requires-clause-lands
land_taken-requires-clause-lands c =
    let r = c.args.self.now.requester in
    let row = response_row r.terms (sender_of r) (packet c.args.d.now) c.requires.mtu in
    subst (λ ps. Lands (bares ps) (packet c.args.d.now) c.take_response-taken.result) (sym c.take_response-taken.ensures.kept.items)
    (subst (λ t. Lands (bares r.items) (packet c.args.d.now) t) (sym c.take_response-taken.ensures.answer) row.landing)
