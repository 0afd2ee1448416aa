use Rattle.std.proofs.Common.{refl}
use Rattle.std.proofs.lemmas.Result.{err_from_is_err_and}
use Rattle.script_lang.specs.Lines.{reading_of}
use Rattle.script_lang.proofs.reading.read_line.Goals as goal

pub returns-in_err-check_bytes-clause-value : goal.returns-in_err-check_bytes-clause-value
unfolding reading_of
returns-in_err-check_bytes-clause-value c =
    let p = err_from_is_err_and c.from_residual.result c.from_residual.ensures.1 in
    rw (p.1, p.2, c.in_err-check_bytes.ensures.bad) refl

pub returns-in_err-check_bytes-clause-memory : goal.returns-in_err-check_bytes-clause-memory
returns-in_err-check_bytes-clause-memory c = λ h.
    let p = err_from_is_err_and c.from_residual.result c.from_residual.ensures.1 in
    absurd (cc (h, p.1, p.2))

pub returns-clause-value : goal.returns-clause-value
unfolding reading_of
returns-clause-value c = rw c.in_ok-check_bytes.ensures.good c.read_words.ensures.value
