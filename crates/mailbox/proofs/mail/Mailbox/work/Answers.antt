use Rattle.std.proofs.Common.{subst, arith}
use Rattle.mailbox_rules.specs.Working.{work_step, worked, begun}
use Rattle.mailbox.specs.Steps.{IsStep}
use Rattle.mailbox.proofs.Worked.{at_next, begins, ends, goes_on, stops}
use Rattle.mailbox.proofs.mail.Mailbox.work.Goals as goal

pub loop-made-init : goal.loop-made-init
loop-made-init c = record { way = λ m shows. begins c.args.self.now m shows; next = omega arith }

pub loop-made-preserved : goal.loop-made-preserved
loop-made-preserved c = record {
  way = λ m shows.
      let way = c.loop-made.invariant.way m shows in
      let w = (worked c.loop-made._made (begun m)).mail in
      goes_on c.loop-made.self m c.loop-made.next c.loop-made._made way c.step.new.self c.in-Some.n (subst (λ o. IsStep (work_step (at_next w c.loop-made.next)) o c.step.new.self w) c.in-Some.is (c.in_ok-n.ensures.ok w way.shown));
  next = rw c.in-Some.is at c.in_ok-n.ensures.next;
}

pub returns-in-None-clause-ok : goal.returns-in-None-clause-ok
returns-in-None-clause-ok c = λ m shows.
    let way = c.loop-made.invariant.way m shows in
    let w = (worked c.loop-made._made (begun m)).mail in
    stops c.loop-made.self m c.loop-made.next c.loop-made._made way c.step.new.self (omega (arith, c.loop-made-test.true))
    (subst (λ o. IsStep (work_step (at_next w c.loop-made.next)) o c.step.new.self w) c.in-None.is (c.in_ok-n.ensures.ok w way.shown))

pub returns-clause-ok : goal.returns-clause-ok
returns-clause-ok c = λ m shows. ends c.loop-made.self m c.loop-made.next c.loop-made._made (c.loop-made.invariant.way m shows) (omega (arith, c.loop-made-test.false, c.loop-made.auto._made-end))
