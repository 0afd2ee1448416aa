use Rattle.std.proofs.Common.{refl}
use Rattle.std.proofs.lemmas.Result.{err_from_is_err_and}
use Rattle.script_lang.proofs.Exits.{gives_or_then, says_said}
use Rattle.script_lang.proofs.reading.whole_line.Goals as goal

pub returns-in_err-line_of-clause-value : goal.returns-in_err-line_of-clause-value
returns-in_err-line_of-clause-value c =
    let p = err_from_is_err_and c.from_residual.result c.from_residual.ensures.1 in
    rw (p.1, p.2) (says_said c.in_err-line_of.field-0.0 c.line_of.new.words _ (gives_or_then c.in_err-line_of.field-0.0 c.line_of.new.words _ _ c.in_err-line_of.ensures.value))

pub returns-in_err-line_of-clause-memory : goal.returns-in_err-line_of-clause-memory
returns-in_err-line_of-clause-memory c = λ h.
    let p = err_from_is_err_and c.from_residual.result c.from_residual.ensures.1 in
    c.in_err-line_of.ensures.memory (cc (h, p.1, p.2))

pub returns-in_err-end-clause-value : goal.returns-in_err-end-clause-value
returns-in_err-end-clause-value c =
    let p = err_from_is_err_and c.from_residual-in_err-end.result c.from_residual-in_err-end.ensures.1 in
    rw (p.1, p.2, c.in_ok-line_of.ensures.value, c.in_err-end.ensures) refl

pub returns-in_err-end-clause-memory : goal.returns-in_err-end-clause-memory
returns-in_err-end-clause-memory c = λ h.
    let p = err_from_is_err_and c.from_residual-in_err-end.result c.from_residual-in_err-end.ensures.1 in
    absurd (cc (h, p.1, p.2))

pub returns-clause-value : goal.returns-clause-value
returns-clause-value c = rw (c.in_ok-line_of.ensures.value, c.in_ok-end.ensures) refl
