use Rattle.std.proofs.Common.{◌∙◌}
use Rattle.script_lang.specs.Scripts.{lines_of}
use Rattle.law_headline.specs.Script.{happenings, script_of}
use Rattle.law_headline.proofs.Reading.{lines_lawful}
use Rattle.law_headline.proofs.Played.{all_counted, one_each, text_on}
use Rattle.law_headline.proofs.playing.answers_stand_in_order.Goals as goal

pub returns-clause-count : goal.returns-clause-count
returns-clause-count c text w = one_each w (happenings text) ∙ all_counted (script_of text).lines (lines_lawful 1 (lines_of text))

pub returns-clause-text : goal.returns-clause-text
returns-clause-text c = text_on
