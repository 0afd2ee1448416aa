use Rattle.std.proofs.lemmas.Result.{on_err_weaker}
use Rattle.script_runner.proofs.Prefixes.{prefix_of_part}
use Rattle.commands.proofs.writing.write_text.Goals as goal

pub returns-clause-part : goal.returns-clause-part
returns-clause-part g c = on_err_weaker c.write_all_of.result (prefix_of_part _ _ c.args.text.now) c.write_all_of.ensures.part
