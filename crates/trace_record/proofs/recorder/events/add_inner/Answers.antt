use Rattle.std.proofs.Common.{◌∙◌, ap, sym, append-nil, ◌++◌}
use Rattle.trace_record.proofs.Happened.{no_more}
use Rattle.trace_record.proofs.recorder.events.add_inner.Goals as goal

pub returns-in_default : goal.returns-in_default
returns-in_default c run = sym (append-nil c.args.steps.now.items) ∙ ap (λ z. c.args.steps.now.items ++ z) (sym (no_more c.args.machine.now c.args.event.now c.args.arrival c.args.answer.now c.in_default.not-Deliver c.in_default.not-At))
