use Rattle.std.proofs.Common.{◌≡◌, ◌∙◌, Some, None, ap, rules}
use Rattle.requester.specs.Sending.{Sending, sender_of}
use Rattle.requester.specs.Telling.{LosesOldest, next_to_tell, without_oldest}
use Rattle.end_completions.proofs.Told.{telling-ends, telling-goes_on}
use Rattle.end_completions.proofs.telling.tell.Goals as goal

pub loop-p-preserved : goal.loop-p-preserved
loop-p-preserved c =
    let next : next_to_tell c.loop-p.requester ≡ Some c.in-Some.p = search rules in
    let loses : LosesOldest c.loop-p.requester c.next_told.new.self = search rules in
    let numbers : sender_of c.next_told.new.self ≡ without_oldest c.loop-p.requester.terms (sender_of c.loop-p.requester) = search rules in
    telling-goes_on c.args.number c.loop-p.requester c.next_told.new.self c.args.requester.now c.loop-p.pool c.tell_one.new.pool c.args.pool.now c.loop-p.cq c.tell_one.new.cq c.args.cq.now c.in-Some.p
    next loses numbers c.tell_one.ensures.queue c.tell_one.ensures.pool c.loop-p.invariant

pub returns-clause-numbers : goal.returns-clause-numbers
returns-clause-numbers c =
    let none : next_to_tell c.loop-p.requester ≡ None = search rules in
    let same : c.next_told.new.self ≡ c.loop-p.requester = search rules in
    ap (λ (v : Sending). sender_of v) same
    ∙ (telling-ends c.args.number c.loop-p.requester c.args.requester.now c.loop-p.pool c.args.pool.now c.loop-p.cq c.args.cq.now none c.loop-p.invariant).numbers

pub returns-clause-items : goal.returns-clause-items
returns-clause-items c =
    let none : next_to_tell c.loop-p.requester ≡ None = search rules in
    let same : c.next_told.new.self ≡ c.loop-p.requester = search rules in
    ap (λ (v : Sending). v.items) same
    ∙ (telling-ends c.args.number c.loop-p.requester c.args.requester.now c.loop-p.pool c.args.pool.now c.loop-p.cq c.args.cq.now none c.loop-p.invariant).items

pub returns-clause-queue : goal.returns-clause-queue
returns-clause-queue c =
    let none : next_to_tell c.loop-p.requester ≡ None = search rules in
    (telling-ends c.args.number c.loop-p.requester c.args.requester.now c.loop-p.pool c.args.pool.now c.loop-p.cq c.args.cq.now none c.loop-p.invariant).queue

pub returns-clause-pool : goal.returns-clause-pool
returns-clause-pool c =
    let none : next_to_tell c.loop-p.requester ≡ None = search rules in
    (telling-ends c.args.number c.loop-p.requester c.args.requester.now c.loop-p.pool c.args.pool.now c.loop-p.cq c.args.cq.now none c.loop-p.invariant).given
