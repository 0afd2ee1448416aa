use Rattle.std.proofs.Common.{Err, subst, sym}
use Rattle.script_lang.specs.declared.lines.Line.{Line}
use Rattle.script_lang.specs.Lines.{Says}
use Rattle.trace_rules.specs.Recording.{recorded_reading}
use Rattle.trace_record.proofs.Said.{bad_bytes, other_line, says_bad, says_quiet, settled_line}
use Rattle.trace_record.proofs.recorder.lines.read_line.Goals as goal

pub returns-in_err-check_bytes-clause-value : goal.returns-in_err-check_bytes-clause-value
returns-in_err-check_bytes-clause-value c = says_bad c.from_residual.result c.in_err-check_bytes.field-0.0 (recorded_reading c.args.line.now) c.from_residual.ensures (bad_bytes c.args.line.now c.in_err-check_bytes.field-0.0 c.in_err-check_bytes.ensures.bad)

pub returns-in-Some-clause-value : goal.returns-in-Some-clause-value
returns-in-Some-clause-value c =
    subst (λ f. Says {L = Line} (Err f) (recorded_reading c.args.line.now)) (sym c.from.ensures)
    (settled_line c.args.line.now c.in-Some.offence c.in_ok-check_bytes.ensures.good (sym c.in-Some.ensures))

pub returns-clause-value : goal.returns-clause-value
returns-clause-value c = subst (Says c.parse_line.result) (sym (other_line c.args.line.now (sym c.in_default.ensures))) c.parse_line.ensures.value

pub returns-clause-quiet : goal.returns-clause-quiet
returns-clause-quiet c =
    says_quiet c.args.line.now c.parse_line.result
    (subst (Says c.parse_line.result) (sym (other_line c.args.line.now (sym c.in_default.ensures))) c.parse_line.ensures.value)
