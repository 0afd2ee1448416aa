use Rattle.script_lang.specs.Scripts.{lines_of}
use Rattle.law_headline.proofs.Played.{says_lines}
use Rattle.law_headline.proofs.playing.scripts_say_their_lines.Goals as goal

pub returns : goal.returns
returns c text = says_lines 1 (lines_of text)
