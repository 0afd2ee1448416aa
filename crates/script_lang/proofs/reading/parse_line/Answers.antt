use Rattle.std.proofs.lemmas.Result.{err_from_is_err_and}
use Rattle.script_lang.proofs.reading.parse_line.Goals as goal

pub returns-in_err-read_line-clause-value : goal.returns-in_err-read_line-clause-value
returns-in_err-read_line-clause-value c =
    let p = err_from_is_err_and c.from_residual.result c.from_residual.ensures.1 in
    rw (p.1, p.2) c.in_err-read_line.ensures.value

pub returns-in_err-read_line-clause-memory : goal.returns-in_err-read_line-clause-memory
returns-in_err-read_line-clause-memory c = λ h.
    let p = err_from_is_err_and c.from_residual.result c.from_residual.ensures.1 in
    c.in_err-read_line.ensures.memory (cc (h, p.1, p.2))
