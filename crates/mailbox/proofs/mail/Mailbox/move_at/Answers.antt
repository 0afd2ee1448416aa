use Rattle.std.proofs.Common.{◌==◌, [], if◌then◌else◌, refl}
use Rattle.std.proofs.lemmas.Result.{on_ok_weaker}
use Rattle.mailbox_rules.specs.Command.{move_calls, place_of}
use Rattle.mailbox.proofs.Running.{no_move, run_as, run_none, the_move}
use Rattle.mailbox.proofs.mail.Mailbox.move_at.Goals as goal

pub returns-then-k-plan : goal.returns-then-k-plan
returns-then-k-plan g c = run_none c.args.self.now (λ m. if place_of c.args.plan.now c.args.k == c.args.j then move_calls c.args.k else []) (λ m. no_move c.args.plan.now c.args.k c.args.j c.if-k-plan.true)

pub returns : goal.returns
returns g c = on_ok_weaker c.transfer.result (λ run.
    run_as c.args.self.now c.transfer.new.self 0 0 0 0 (λ m. move_calls c.args.k) (λ m. if place_of c.args.plan.now c.args.k == c.args.j then move_calls c.args.k else []) run refl refl
    (λ m. the_move c.args.plan.now c.args.k c.args.j c.if-k-plan.false)) c.transfer.ensures
