use Rattle.std.proofs.Common.{refl}
use Rattle.script_lang.specs.Texts.{part_of}
use Rattle.script_lang.proofs.texts.part.Goals as goal

pub returns-clause-value : goal.returns-clause-value
unfolding part_of
returns-clause-value c = rw (← c.cut.ensures.front, ← c.in_ok-n.ensures.value, ← c.cut.ensures.behind, c.in_ok-behind.was) refl
