use Rattle.std.proofs.Common.{◌<◌, ap, ◌∙◌, subst}
use Rattle.memory_keys.specs.Regions.{regions_of}
use Rattle.roce_headers.specs.Packets.{packet}
use Rattle.responder.proofs.Ends.{ahead-taken, before-taken, expected-taken, near-same, none-taken}
use Rattle.responder.proofs.Responder.take.Goals as goal

pub returns-in_default-clause-taken : goal.returns-in_default-clause-taken
returns-in_default-clause-taken c =
    let now = c.args.self.now in
    let d = packet c.args.d.now in
    let n = ap (λ v. v.receiver.expected) c.self.view_is in
    let start = ap (λ v. v.terms.peer_start) c.self.view_is in
    let near = near-same c.self.inside.terms.peer_start now.terms.peer_start d.psn c.self.inside.parts.expected now.receiver.expected c.unwrap_near.result c.unwrap_near.ensures.rule start n in
    none-taken now c.args.domain c.args.qp (regions_of c.args.pool.now c.args.regions.now) c.args.recvs.now c.args.cq.now d (near ∙ c.in_default.is)

pub returns-in-Ahead-clause-taken : goal.returns-in-Ahead-clause-taken
returns-in-Ahead-clause-taken c =
    let now = c.args.self.now in
    let d = packet c.args.d.now in
    let rs = regions_of c.args.pool.now c.args.regions.now in
    let n = ap (λ v. v.receiver.expected) c.self.view_is in
    let start = ap (λ v. v.terms.peer_start) c.self.view_is in
    let near = near-same c.self.inside.terms.peer_start now.terms.peer_start d.psn c.self.inside.parts.expected now.receiver.expected c.unwrap_near.result c.unwrap_near.ensures.rule start n in
    let later : now.receiver.expected < c.in-Some.n = subst (λ x. x < c.in-Some.n) n (c.place.ensures.ahead.0 c.in-Ahead.is) in
    ahead-taken now c.take_ahead.new.self c.args.domain c.args.qp rs c.args.recvs.now c.args.cq.now d c.in-Some.n c.take_ahead.result (near ∙ c.in-Some.is) later
    (c.take_ahead.ensures.reply c.args.domain c.args.qp rs c.args.recvs.now.items) (c.take_ahead.ensures.receiver c.args.domain c.args.qp rs c.args.recvs.now.items)

pub returns-in-Before-clause-taken : goal.returns-in-Before-clause-taken
returns-in-Before-clause-taken c =
    let now = c.args.self.now in
    let d = packet c.args.d.now in
    let n = ap (λ v. v.receiver.expected) c.self.view_is in
    let start = ap (λ v. v.terms.peer_start) c.self.view_is in
    let near = near-same c.self.inside.terms.peer_start now.terms.peer_start d.psn c.self.inside.parts.expected now.receiver.expected c.unwrap_near.result c.unwrap_near.ensures.rule start n in
    let earlier : c.in-Some.n < now.receiver.expected = subst (λ x. c.in-Some.n < x) n (c.place.ensures.before.0 c.in-Before.is) in
    before-taken now c.args.domain c.args.qp (regions_of c.args.pool.now c.args.regions.now) c.args.recvs.now c.args.cq.now d c.in-Some.n c.take_repeat.result (near ∙ c.in-Some.is) earlier (c.take_repeat.ensures c.args.pool.now c.args.qp c.args.recvs.now.items)

pub returns-in-Expected-clause-taken : goal.returns-in-Expected-clause-taken
returns-in-Expected-clause-taken c =
    let now = c.args.self.now in
    let d = packet c.args.d.now in
    let n = ap (λ v. v.receiver.expected) c.self.view_is in
    let start = ap (λ v. v.terms.peer_start) c.self.view_is in
    let near = near-same c.self.inside.terms.peer_start now.terms.peer_start d.psn c.self.inside.parts.expected now.receiver.expected c.unwrap_near.result c.unwrap_near.ensures.rule start n in
    expected-taken now c.take_expected.new.self c.args.domain c.args.qp (regions_of c.args.pool.now c.args.regions.now) (regions_of c.take_expected.new.pool c.take_expected.new.regions) c.args.recvs.now c.take_expected.new.recvs c.args.cq.now c.take_expected.new.cq d c.in-Some.n c.take_expected.result (near ∙ c.in-Some.is) (c.place.ensures.expected.0 c.in-Expected.is ∙ n) c.take_expected.ensures.taken
