use Rattle.std.proofs.Common.{refl}
use Rattle.std.proofs.lemmas.Result.{err_from_is_err_and}
use Rattle.script_lang.specs.Lines.{line_of}
use Rattle.script_lang.proofs.Exits.{gives_or_then}
use Rattle.script_lang.proofs.reading.verb_line.Goals as goal

pub returns-in_err-read_verb-clause-value : goal.returns-in_err-read_verb-clause-value
unfolding line_of
returns-in_err-read_verb-clause-value c =
    let p = err_from_is_err_and c.from_residual.result c.from_residual.ensures.1 in
    rw (p.1, p.2) (gives_or_then c.in_err-read_verb.field-0.0 _ _ _ c.in_err-read_verb.ensures.value)

pub returns-in_err-read_verb-clause-memory : goal.returns-in_err-read_verb-clause-memory
returns-in_err-read_verb-clause-memory c = λ h.
    let p = err_from_is_err_and c.from_residual.result c.from_residual.ensures.1 in
    c.in_err-read_verb.ensures.memory (cc (h, p.1, p.2))

pub returns-clause-value : goal.returns-clause-value
unfolding line_of
returns-clause-value c = rw c.in_ok-read_verb.ensures.value refl
