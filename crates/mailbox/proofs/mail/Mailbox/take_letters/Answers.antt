use Rattle.std.proofs.Common.{◌+◌, arith, refl}
use Rattle.mailbox_rules.specs.Command.{all_taking_calls}
use Rattle.mailbox.proofs.Running.{no_taking, run_none, run_taking_more}
use Rattle.mailbox.proofs.mail.Mailbox.take_letters.Goals as goal

pub loop-i-init : goal.loop-i-init
loop-i-init c = record { run = run_none c.args.self.now (all_taking_calls c.args.plan.now.letters 1 0) (λ m. no_taking c.args.plan.now.letters 1 m); few = omega arith }

pub loop-i-preserved : goal.loop-i-preserved
loop-i-preserved c = record {
  run = run_taking_more c.args.self.now c.loop-i.self c.take_all.new.self c.args.plan.now.letters c.loop-i.taken c.in_ok-more.more c.loop-i.i (c.loop-i.i + 1) refl c.loop-i.invariant.run c.in_ok-more.ensures.run;
  few = omega (arith, c.in_ok-more.ensures.within, c.loop-i.invariant.few, c.requires);
}
