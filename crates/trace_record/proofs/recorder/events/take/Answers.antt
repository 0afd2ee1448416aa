use Rattle.std.proofs.Common.{◌∙◌, ap, sym, append-nil, ◌++◌}
use Rattle.trace_record.proofs.Happened.{not_taken}
use Rattle.trace_record.proofs.recorder.events.take.Goals as goal

pub returns-in_default : goal.returns-in_default
returns-in_default c run = sym (append-nil c.args.steps.now.items) ∙ ap (λ z. c.args.steps.now.items ++ z) (sym (not_taken c.args.machine.now c.args.arrival c.args.answer.now c.in_default.not-Took))
