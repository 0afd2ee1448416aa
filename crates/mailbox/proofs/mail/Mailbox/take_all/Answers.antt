use Rattle.std.proofs.Common.{◌≡◌, ◌∙◌, ℕ, sym, None, subst, arith}
use Rattle.mailbox_rules.specs.Calls.{Take, calls}
use Rattle.mailbox_rules.specs.Command.{taking_calls}
use Rattle.mailbox.specs.Runs.{IsGivenOrNot, Runs}
use Rattle.mailbox.proofs.Running.{taking_done, taking_ended, taking_more, taking_none}
use Rattle.mailbox.proofs.mail.Mailbox.take_all.Goals as goal

pub loop-k-init : goal.loop-k-init
loop-k-init c = λ m shows. taking_none c.args.self.now m c.args.from c.args.most shows

pub loop-k-preserved : goal.loop-k-preserved
loop-k-preserved c = λ m shows. taking_more c.loop-k.self c.take_one.new.self m c.args.from c.args.most c.loop-k.k (c.loop-k.invariant m shows) (λ x shown. subst (λ b. IsGivenOrNot c.take_one.new.self b (calls x (Take c.args.from None))) c.if-not-given.false (c.in_ok-given.ensures x shown))

pub returns-then-not-given-clause-run : goal.returns-then-not-given-clause-run
returns-then-not-given-clause-run c = λ m shows. subst (λ (n : ℕ). Runs c.take_one.new.self 0 n m (taking_calls c.args.most c.args.from m)) (sym c.from.ensures) (taking_ended c.loop-k.self c.take_one.new.self m c.args.from c.args.most c.loop-k.k c.loop-k-test.true (c.loop-k.invariant m shows) (λ x shown. subst (λ b. IsGivenOrNot c.take_one.new.self b (calls x (Take c.args.from None))) c.if-not-given.true (c.in_ok-given.ensures x shown)))

pub returns-clause-run : goal.returns-clause-run
returns-clause-run c = λ m shows.
    let all : c.loop-k.k ≡ c.args.most = omega (arith, c.loop-k-test.false, c.loop-k.auto.k-end) in
    subst (λ (n : ℕ). Runs c.loop-k.self 0 n m (taking_calls c.args.most c.args.from m)) (all ∙ sym c.from-2.ensures) (taking_done c.loop-k.self m c.args.from c.args.most c.loop-k.k all (c.loop-k.invariant m shows))
