use Rattle.script_runner.proofs.Prefixes.{no_prefix, on_err}
use Rattle.script_runner.proofs.playing.answer.Goals as goal

pub returns-in_err-told-clause-part : goal.returns-in_err-told-clause-part
returns-in_err-told-clause-part g c = on_err c.from_residual.result (no_prefix _ _)
