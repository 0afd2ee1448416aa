use Rattle.std.proofs.Common.{Bool, Ok, Err, subst}
use Rattle.std.proofs.lemmas.Result.{err_from_is_err_and}
use Rattle.run_traces.specs.Auditing.{ComesOf, line_outcome}
use Rattle.run_traces.proofs.Loop.{found-bad, found-end, found-first, found-last, found-next}
use Rattle.run_traces.proofs.trace_audit.auditing.find.Goals as goal

pub loop-line-init : goal.loop-line-init
loop-line-init c = found-first c.args.trace.now c.begin-audit.result c.begin-audit.ensures

pub returns-in_err-take_line : goal.returns-in_err-take_line
returns-in_err-take_line c =
    let p = err_from_is_err_and c.from_residual.result c.from_residual.ensures.1 in
    rw (p.1, p.2) (found-bad c.args.trace.now c.loop-line.rest.now c.in-Some.line.now c.in-Some.behind.now c.loop-line.audit c.take_line.new.self c.loop-line.number c.in_err-take_line.field-0.0 c.loop-line.invariant c.in-Some.ensures.cut c.in_err-take_line.ensures)

pub returns-then-branch : goal.returns-then-branch
returns-then-branch c =
    let last = subst (λ (b : Bool). ComesOf (Ok b) c.take_line.new.self c.loop-line.number (line_outcome c.loop-line.audit c.loop-line.number c.in-Some.line.now)) c.if-branch.true c.in_ok-take_line.ensures in
    found-last c.args.trace.now c.loop-line.rest.now c.in-Some.line.now c.in-Some.behind.now c.loop-line.audit c.take_line.new.self c.loop-line.number c.close.result c.loop-line.invariant c.in-Some.ensures.cut last c.close.ensures

pub loop-line-preserved : goal.loop-line-preserved
loop-line-preserved c =
    let next = subst (λ (b : Bool). ComesOf (Ok b) c.take_line.new.self c.loop-line.number (line_outcome c.loop-line.audit c.loop-line.number c.in-Some.line.now)) c.if-branch.false c.in_ok-take_line.ensures in
    found-next c.args.trace.now c.loop-line.rest.now c.in-Some.line.now c.in-Some.behind.now c.loop-line.audit c.take_line.new.self c.loop-line.number c.loop-line.invariant c.in-Some.ensures.cut c.in-Some.ensures.shorter next

pub returns : goal.returns
returns c =
    found-end c.args.trace.now c.loop-line.rest.now c.loop-line.audit c.loop-line.number c.is_owed.result (Err c.unfinished.result) c.loop-line.invariant c.in_default.ensures.uncut c.is_owed.ensures c.unfinished.ensures
