use Rattle.std.proofs.Common.{refl, ◌+◌}
use Rattle.mailbox_rules.specs.Command.{moves_after}
use Rattle.mailbox.proofs.Running.{no_moves, run_moves_more, run_none}
use Rattle.mailbox.proofs.mail.Mailbox.move_after.Goals as goal

pub loop-k-init : goal.loop-k-init
loop-k-init g c = run_none c.args.self.now (λ m. moves_after c.args.plan.now c.args.j 0) (λ m. no_moves c.args.plan.now c.args.j)

pub loop-k-preserved : goal.loop-k-preserved
loop-k-preserved g c = run_moves_more c.args.self.now c.loop-k.self c.move_at.new.self c.args.plan.now c.args.j c.loop-k.k (c.loop-k.k + 1) refl c.loop-k.invariant c.in_ok-move_at.ensures
