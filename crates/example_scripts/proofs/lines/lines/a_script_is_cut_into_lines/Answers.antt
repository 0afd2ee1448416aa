use Rattle.std.specs.Prelude.{refl}
use Rattle.script_lang.specs.Scripts.{lines_in, lines_of}
use Rattle.example_scripts.proofs.lines.lines.a_script_is_cut_into_lines.Goals as goal

pub returns : goal.returns
unfolding lines_in lines_of
returns c = refl
