use Rattle.std.proofs.Common.{refl}
use Rattle.script_lang.specs.Verbs.{load_line}
use Rattle.script_lang.proofs.verbs.load.Goals as goal

pub returns-clause-value : goal.returns-clause-value
unfolding load_line
returns-clause-value c =
    rw (c.in_ok-region.ensures, c.in_ok-at.ensures, c.in_ok-length.ensures.value)
    refl
