use Rattle.std.proofs.Common.{◌≡◌, Some, None, slice_get, rules}
use Rattle.end_completions.proofs.Failed.{failing-ends, failing-goes_on}
use Rattle.end_completions.proofs.failing.flush_requests.Goals as goal

pub loop-p-preserved : goal.loop-p-preserved
loop-p-preserved c =
    let at : slice_get c.loop-p.requester.items 0 ≡ Some c.in-Some.p = search rules in
    failing-goes_on c.args.number c.loop-p.status c.args.status c.loop-p.requester c.cut.new.self c.args.requester.now c.loop-p.pool c.fail_one.new.pool c.args.pool.now c.loop-p.cq c.fail_one.new.cq c.args.cq.now c.in-Some.p
    at c.cut.ensures.rest c.cut.ensures.numbers c.fail_one.ensures.queue c.fail_one.ensures.pool c.loop-p.invariant

pub returns-clause-items : goal.returns-clause-items
returns-clause-items c =
    let none : slice_get c.loop-p.requester.items 0 ≡ None = search rules in
    (failing-ends c.args.number c.loop-p.status c.args.status c.loop-p.requester c.cut.new.self c.args.requester.now c.loop-p.pool c.args.pool.now c.loop-p.cq c.args.cq.now none c.cut.ensures.rest c.cut.ensures.numbers c.loop-p.invariant).items

pub returns-clause-numbers : goal.returns-clause-numbers
returns-clause-numbers c =
    let none : slice_get c.loop-p.requester.items 0 ≡ None = search rules in
    (failing-ends c.args.number c.loop-p.status c.args.status c.loop-p.requester c.cut.new.self c.args.requester.now c.loop-p.pool c.args.pool.now c.loop-p.cq c.args.cq.now none c.cut.ensures.rest c.cut.ensures.numbers c.loop-p.invariant).numbers

pub returns-clause-queue : goal.returns-clause-queue
returns-clause-queue c =
    let none : slice_get c.loop-p.requester.items 0 ≡ None = search rules in
    (failing-ends c.args.number c.loop-p.status c.args.status c.loop-p.requester c.cut.new.self c.args.requester.now c.loop-p.pool c.args.pool.now c.loop-p.cq c.args.cq.now none c.cut.ensures.rest c.cut.ensures.numbers c.loop-p.invariant).queue

pub returns-clause-pool : goal.returns-clause-pool
returns-clause-pool c =
    let none : slice_get c.loop-p.requester.items 0 ≡ None = search rules in
    (failing-ends c.args.number c.loop-p.status c.args.status c.loop-p.requester c.cut.new.self c.args.requester.now c.loop-p.pool c.args.pool.now c.loop-p.cq c.args.cq.now none c.cut.ensures.rest c.cut.ensures.numbers c.loop-p.invariant).given
