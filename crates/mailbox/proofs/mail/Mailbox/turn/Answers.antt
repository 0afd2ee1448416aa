use Rattle.std.proofs.Common.{◌∙◌, ◌+◌, sym, add-zero, refl, ◌++◌}
use Rattle.mailbox_rules.specs.Command.{moves_after, send_of, sending_calls}
use Rattle.mailbox.specs.Runs.{count_of}
use Rattle.mailbox.proofs.Running.{run_as, run_then}
use Rattle.mailbox.proofs.mail.Mailbox.turn.Goals as goal

pub returns-clause-run : goal.returns-clause-run
returns-clause-run g c =
    run_as c.args.self.now c.move_after.new.self (count_of c.in_ok-sent.sent + 0) 0 c.count.result 0
    (λ m. sending_calls m (send_of c.args.plan.now c.args.j c.args.word) ++ moves_after c.args.plan.now c.args.j c.args.plan.now.moves)
    (λ m. sending_calls m (send_of c.args.plan.now c.args.j c.args.word) ++ moves_after c.args.plan.now c.args.j c.args.plan.now.moves)
    (run_then c.args.self.now c.send_by.new.self c.move_after.new.self (count_of c.in_ok-sent.sent) 0 0 0 (λ m. sending_calls m (send_of c.args.plan.now c.args.j c.args.word)) (λ m. moves_after c.args.plan.now c.args.j c.args.plan.now.moves) c.in_ok-sent.ensures c.in_ok-move_after.ensures)
    (add-zero (count_of c.in_ok-sent.sent) ∙ sym c.count.ensures) refl (λ m. refl)
