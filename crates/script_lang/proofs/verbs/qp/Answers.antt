use Rattle.std.proofs.Common.{refl}
use Rattle.script_lang.specs.Verbs.{qp_line}
use Rattle.script_lang.proofs.verbs.qp.Goals as goal

pub returns-clause-value : goal.returns-clause-value
unfolding qp_line
returns-clause-value c =
    rw (c.in_ok-name.ensures, c.in_ok-domain.ensures, c.in_ok-send_cq.ensures, c.in_ok-recv_cq.ensures, c.in_ok-send_depth.ensures.value, c.in_ok-recv_depth.ensures.value)
    refl
