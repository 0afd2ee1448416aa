use Rattle.std.proofs.Common.{ap, sym, subst}
use Rattle.context_core.proofs.RequestsFromImage.{Giving, giving-begins, giving-ends, giving-goes_on, giving-lives}
use Rattle.context_core.proofs.requests.give_requests.Goals as goal

pub loop-posted-init : goal.loop-posted-init
loop-posted-init c = giving-begins c.args.pool.now c.args.queue.items c.requires

pub give-requires : goal.give-requires
give-requires c = giving-lives c.args.pool.now c.loop-posted.pool c.args.queue.items c.loop-posted.queue.items c.in-Some.posted (sym c.in-Some.ensures.front) c.loop-posted.invariant

pub loop-posted-preserved : goal.loop-posted-preserved
loop-posted-preserved c = subst (Giving c.args.pool.now c.give.new.self c.args.queue.items) (ap (λ q. q.items) (sym c.drop_front.ensures.rest)) (giving-goes_on c.args.pool.now c.loop-posted.pool c.give.new.self c.args.queue.items c.loop-posted.queue.items c.in-Some.posted (sym c.in-Some.ensures.front) c.loop-posted.invariant c.give.ensures.puts c.give.ensures.free)

pub returns-clause-gives : goal.returns-clause-gives
returns-clause-gives c = (giving-ends c.args.pool.now c.loop-posted.pool c.args.queue.items c.loop-posted.queue.items (sym c.in_default.ensures.front) c.loop-posted.invariant).0

pub returns-clause-gone : goal.returns-clause-gone
returns-clause-gone c = (giving-ends c.args.pool.now c.loop-posted.pool c.args.queue.items c.loop-posted.queue.items (sym c.in_default.ensures.front) c.loop-posted.invariant).1
