use Rattle.std.proofs.Common.{sym}
use Rattle.mailbox.proofs.Running.{whole_run}
use Rattle.mailbox.proofs.plans.run_mail.Goals as goal

pub returns-clause-sent : goal.returns-clause-sent
returns-clause-sent g c = sym (whole_run c.in_ok-mail.mail c.move_after.new.self c.send_all.new.self c.settle_thrice.new.self c.take_letters.new.self c.args.plan.now c.in_ok-letters.letters c.in_ok-taken.taken
    c.in_ok-mail.ensures c.in_ok-move_after.ensures c.in_ok-letters.ensures c.in_ok-settle_thrice.ensures c.in_ok-taken.ensures).sent_is

pub returns-clause-taken : goal.returns-clause-taken
returns-clause-taken g c = sym (whole_run c.in_ok-mail.mail c.move_after.new.self c.send_all.new.self c.settle_thrice.new.self c.take_letters.new.self c.args.plan.now c.in_ok-letters.letters c.in_ok-taken.taken
    c.in_ok-mail.ensures c.in_ok-move_after.ensures c.in_ok-letters.ensures c.in_ok-settle_thrice.ensures c.in_ok-taken.ensures).taken_is
