use Rattle.script_lang.proofs.Whole.{printed_whole}
use Rattle.script_lang.proofs.print.laws.answers_are_whole_lines.Goals as goal

pub returns : goal.returns
returns c = λ a. printed_whole a
