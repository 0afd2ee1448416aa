use Rattle.std.proofs.Common.{refl}
use Rattle.script_lang.specs.Verbs.{poll_line}
use Rattle.script_lang.proofs.verbs.poll.Goals as goal

pub returns-clause-value : goal.returns-clause-value
unfolding poll_line
returns-clause-value c =
    rw (c.in_ok-cq.ensures, c.in_ok-max.ensures.value)
    refl
