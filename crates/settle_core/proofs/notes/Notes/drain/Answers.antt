use Rattle.std.proofs.Common.{rules}
use Rattle.protocol.specs.Settle.{drained, pass}
use Rattle.settle_core.proofs.Cuts.{drain_first, drain_second, drain_third}
use Rattle.settle_core.proofs.Goings.{on_err}
use Rattle.settle_core.proofs.notes.Notes.drain.Goals as goal

pub returns-in_err-pass-clause-ok : goal.returns-in_err-pass-clause-ok
returns-in_err-pass-clause-ok c = search rules

pub returns-in_err-pass-2-clause-ok : goal.returns-in_err-pass-2-clause-ok
returns-in_err-pass-2-clause-ok c = search rules

pub returns-in_err-pass-3-clause-ok : goal.returns-in_err-pass-3-clause-ok
returns-in_err-pass-3-clause-ok c = search rules

pub returns-clause-ok : goal.returns-clause-ok
unfolding drained
returns-clause-ok c s h = c.in_ok-pass-3.ensures.ok (pass (pass s)) (c.in_ok-pass-2.ensures.ok (pass s) (c.in_ok-pass.ensures.ok s h))

pub returns-in_err-pass-clause-cut : goal.returns-in_err-pass-clause-cut
returns-in_err-pass-clause-cut c =
    on_err c.from_residual.result
    (λ s h. drain_first s c.pass.new.world (c.in_err-pass.ensures.cut s h))

pub returns-in_err-pass-2-clause-cut : goal.returns-in_err-pass-2-clause-cut
returns-in_err-pass-2-clause-cut c =
    on_err c.from_residual-in_err-pass-2.result
    (λ s h. drain_second s c.pass-2.new.world (c.in_err-pass-2.ensures.cut (pass s) (c.in_ok-pass.ensures.ok s h)))

pub returns-in_err-pass-3-clause-cut : goal.returns-in_err-pass-3-clause-cut
returns-in_err-pass-3-clause-cut c =
    on_err c.from_residual-in_err-pass-3.result
    (λ s h. drain_third s c.pass-3.new.world (c.in_err-pass-3.ensures.cut (pass (pass s)) (c.in_ok-pass-2.ensures.ok (pass s) (c.in_ok-pass.ensures.ok s h))))
