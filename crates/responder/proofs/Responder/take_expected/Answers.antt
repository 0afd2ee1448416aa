use Rattle.std.proofs.Common.{ap, sym, ◌∙◌, arith}
use Rattle.memory_keys.specs.Regions.{regions_of}
use Rattle.roce_headers.specs.Packets.{packet}
use Rattle.responder.proofs.Ends.{acted-taken, invalid-taken, limit-taken, no-access-taken, not-ready-taken}
use Rattle.responder.proofs.Responder.take_expected.Goals as goal

pub returns-then-self-span-ge-NUMBER_LIMIT-clause-taken : goal.returns-then-self-span-ge-NUMBER_LIMIT-clause-taken
returns-then-self-span-ge-NUMBER_LIMIT-clause-taken c =
    let now = c.args.self.now in
    let d = packet c.args.d.now in
    let n = ap (λ v. v.receiver.expected) c.self.view_is in
    limit-taken now c.args.domain c.args.qp (regions_of c.args.pool.now c.args.regions.now) c.args.recvs.now c.args.cq.now d (omega (arith, n, c.span.ensures.span, c.if-self-span-ge-NUMBER_LIMIT.true))

pub returns-then-is_invalid-clause-taken : goal.returns-then-is_invalid-clause-taken
returns-then-is_invalid-clause-taken c =
    let now = c.args.self.now in
    let d = packet c.args.d.now in
    let n = ap (λ v. v.receiver.expected) c.self.view_is in
    invalid-taken now c.args.domain c.args.qp (regions_of c.args.pool.now c.args.regions.now) c.args.recvs.now c.args.cq.now d (omega (arith, n, c.span.ensures.span, c.if-self-span-ge-NUMBER_LIMIT.false)) (sym c.is_invalid.ensures ∙ c.if-is_invalid.true)

pub returns-in_default-clause-taken : goal.returns-in_default-clause-taken
returns-in_default-clause-taken c =
    let now = c.args.self.now in
    let d = packet c.args.d.now in
    let n = ap (λ v. v.receiver.expected) c.self.view_is in
    no-access-taken now c.args.domain c.args.qp (regions_of c.args.pool.now c.args.regions.now) c.args.recvs.now c.args.cq.now d (omega (arith, n, c.span.ensures.span, c.if-self-span-ge-NUMBER_LIMIT.false)) (sym c.is_invalid.ensures ∙ c.if-is_invalid.false) (sym c.in_default.is ∙ c.target.ensures.granted c.args.pool.now)

pub returns-then-is_not_ready-clause-taken : goal.returns-then-is_not_ready-clause-taken
returns-then-is_not_ready-clause-taken c =
    let now = c.args.self.now in
    let d = packet c.args.d.now in
    let n = ap (λ v. v.receiver.expected) c.self.view_is in
    not-ready-taken now c.args.domain c.args.qp (regions_of c.args.pool.now c.args.regions.now) c.args.recvs.now c.args.cq.now d c.in-Some.spot (omega (arith, n, c.span.ensures.span, c.if-self-span-ge-NUMBER_LIMIT.false)) (sym c.is_invalid.ensures ∙ c.if-is_invalid.false) (sym c.in-Some.is ∙ c.target.ensures.granted c.args.pool.now) (sym c.is_not_ready.ensures ∙ c.if-is_not_ready.true)

pub returns-clause-taken : goal.returns-clause-taken
returns-clause-taken c =
    let now = c.args.self.now in
    let d = packet c.args.d.now in
    let n = ap (λ v. v.receiver.expected) c.self.view_is in
    acted-taken now c.act.new.self c.args.domain c.args.qp (regions_of c.args.pool.now c.args.regions.now) (regions_of c.act.new.pool c.act.new.regions) c.args.recvs.now c.act.new.recvs c.args.cq.now c.act.new.cq d c.act.result c.in-Some.spot (omega (arith, n, c.span.ensures.span, c.if-self-span-ge-NUMBER_LIMIT.false)) (sym c.is_invalid.ensures ∙ c.if-is_invalid.false) (sym c.in-Some.is ∙ c.target.ensures.granted c.args.pool.now) c.act.ensures.taken
