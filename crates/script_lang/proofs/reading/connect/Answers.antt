use Rattle.std.proofs.Common.{refl}
use Rattle.script_lang.specs.Lines.{connect_line}
use Rattle.script_lang.proofs.reading.connect.Goals as goal

pub returns-clause-value : goal.returns-clause-value
unfolding connect_line
returns-clause-value c = rw (c.in_ok-one.ensures, c.in_ok-two.ensures, c.in_ok-terms.ensures.value) refl
