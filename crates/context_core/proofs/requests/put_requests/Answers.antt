use Rattle.std.proofs.Common.{◌≡◌, ◌+◌, [], ◌∙◌, ap, refl, subst, sym, take}
use Rattle.std.proofs.lemmas.Result.{IfOk-at_ok}
use Rattle.end_queues.specs.Postings.{posting}
use Rattle.context_core.specs.Coming.{Come}
use Rattle.context_core.proofs.RequestsFromImage.{come-more, come-none, held-kept}
use Rattle.context_core.proofs.requests.put_requests.Goals as goal

pub loop-image-init : goal.loop-image-init
loop-image-init c = record { depth = refl; come = subst (Come c.args.pool.now c.args.pool.now c.args.regions.now c.args.domain []) (sym c.requires.empty) (come-none c.args.pool.now c.args.regions.now c.args.domain) }

pub posted_of-requires-clause-held : goal.posted_of-requires-clause-held
posted_of-requires-clause-held c = held-kept c.args.pool.now c.loop-image.pool c.loop-image.queue.items c.args.regions.now c.loop-image.invariant.come.taken c.requires.held

pub loop-image-preserved : goal.loop-image-preserved
loop-image-preserved c =
    let put = IfOk-at_ok (λ u. c.post.new.self ≡ posting c.loop-image.queue c.in_ok-posted.posted) c.unwrap.ensures c.post.ensures.ok in
    record {
      depth = ap (λ q. q.depth) put ∙ c.loop-image.invariant.depth;
      come = subst (Come c.args.pool.now c.posted_of.new.pool c.args.regions.now c.args.domain (take (c.loop-image.image-index + 1) c.args.images.now)) (sym (ap (λ q. q.items) put))
          (come-more c.args.pool.now c.loop-image.pool c.posted_of.new.pool c.args.regions.now c.args.domain c.args.images.now c.loop-image.image-index c.image-item.result c.loop-image.queue.items c.in_ok-posted.posted c.loop-image-test.true c.image-item.is c.loop-image.invariant.come c.in_ok-posted.ensures.come);
    }
