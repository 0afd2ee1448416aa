use Rattle.std.proofs.Common.{refl}
use Rattle.script_lang.specs.Lines.{line_of}
use Rattle.script_lang.proofs.reading.release.Goals as goal

pub returns-clause-value : goal.returns-clause-value
unfolding line_of
returns-clause-value c = rw (c.in_ok-name.ensures, c.in_ok-device.ensures.value) refl
