use Rattle.script_lang.proofs.forms.spells.Goals as goal

pub returns : goal.returns
returns c = c.eq.ensures
