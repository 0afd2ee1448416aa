use Rattle.std.proofs.Common.{refl}
use Rattle.script_lang.specs.Verbs.{region_line}
use Rattle.script_lang.proofs.verbs.region.Goals as goal

pub returns-clause-value : goal.returns-clause-value
unfolding region_line
returns-clause-value c =
    rw (c.in_ok-name.ensures, c.in_ok-domain.ensures, c.in_ok-base.ensures.value, c.in_ok-length.ensures.value, c.in_ok-rights.ensures.value)
    refl
