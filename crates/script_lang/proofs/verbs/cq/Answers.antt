use Rattle.std.proofs.Common.{refl}
use Rattle.script_lang.specs.Verbs.{cq_line}
use Rattle.script_lang.proofs.verbs.cq.Goals as goal

pub returns-clause-value : goal.returns-clause-value
unfolding cq_line
returns-clause-value c =
    rw (c.in_ok-name.ensures, c.in_ok-capacity.ensures.value)
    refl
