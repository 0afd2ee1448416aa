use Rattle.std.proofs.Common.{◌≡◌, ◌+◌, ◌-◌, ◌<◌, ◌≤◌, ◌^◌, ap, sym, subst, ◌∙◌, length, arith}
use Rattle.rdma_types.specs.Lists.{at}
use Rattle.rdma_types.specs.Objects.{no_region}
use Rattle.memory_keys.specs.Regions.{regions_of}
use Rattle.protocol.specs.Responder.{read_piece}
use Rattle.endpoint_core.specs.Due.{responses, telling}
use Rattle.endpoint_core.specs.Ends.{link_in}
use Rattle.context_core.proofs.DraftParts.{grown-before}
use Rattle.context_core.proofs.ReadResponses.{few-responses, next-response, none-yet}
use Rattle.context_core.proofs.arriving.responses.Goals as goal

pub loop-k-init : goal.loop-k-init
loop-k-init c = none-yet c.args.pool.now (regions_of c.args.pool.now c.args.regions.now) c.args.link.now c.args.due.now c.try_reserve.new.self.items c.count_of-count.result (c.in_ok-try_reserve.ensures.items ∙ c.requires.empty)

pub loop-k-preserved : goal.loop-k-preserved
loop-k-preserved c =
    let pool = c.args.pool.now in
    let held = c.args.regions.now in
    let link = c.args.link.now in
    let due = c.args.due.now in
    let region = at (λ r. r.keys.local) no_region due.spot.region (regions_of pool held) in
    let count = c.count_of-count.result in
    let k = c.loop-k.k - 1 in
    let same : c.loop-k.k ≡ k + 1 = omega arith in
    let inside : k < count = omega arith in
    grown-before c.loop-k.list.items c.push.new.self.items c.piece_sent-response.result (read_piece (telling (link_in pool link) due.msn) region due.spot.off due.spot.length due.first k)
    (responses pool (regions_of pool held) link due (count - (k + 1))) (responses pool (regions_of pool held) link due (count - k))
    c.in_ok-push.ensures.items c.piece_sent-response.ensures (next-response pool (regions_of pool held) link due count k c.count_of-count.ensures.rule inside)
    (c.loop-k.invariant ∙ ap (λ j. responses pool (regions_of pool held) link due (count - j)) same)

pub returns-in_err-memory-clause-bounded : goal.returns-in_err-memory-clause-bounded
returns-in_err-memory-clause-bounded c = few-responses c.args.pool.now (regions_of c.args.pool.now c.args.regions.now) c.args.link.now c.args.due.now c.loop-k.list.items c.count_of-count.result c.loop-k.k c.loop-k.invariant c.count_of-count.ensures.bounded

pub returns-in_err-push-clause-bounded : goal.returns-in_err-push-clause-bounded
returns-in_err-push-clause-bounded c =
    subst (λ xs. length xs ≤ 2 ^ 32) (sym c.in_err-push.ensures.items)
    (few-responses c.args.pool.now (regions_of c.args.pool.now c.args.regions.now) c.args.link.now c.args.due.now c.loop-k.list.items c.count_of-count.result c.loop-k.k c.loop-k.invariant c.count_of-count.ensures.bounded)

pub returns-clause-bounded : goal.returns-clause-bounded
returns-clause-bounded c = few-responses c.args.pool.now (regions_of c.args.pool.now c.args.regions.now) c.args.link.now c.args.due.now c.loop-k.list.items c.count_of-count.result c.loop-k.k c.loop-k.invariant c.count_of-count.ensures.bounded
