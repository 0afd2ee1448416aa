use Rattle.std.proofs.Common.{◌∙◌, arith}
use Rattle.std.proofs.lemmas.Bool.Decides.{nat_tests}
use Rattle.run_traces.proofs.Heard.{ended-other, ended-same}
use Rattle.run_traces.proofs.trace_audit.answers.is_line.Goals as goal

pub returns-then-last-eq10 : goal.returns-then-last-eq10
returns-then-last-eq10 c = c.eq.ensures ∙ ended-same _ _ c.args.line.now _ c.in-Some.ensures.cases.0 c.if-last-eq10.true

pub returns-else-last-eq10 : goal.returns-else-last-eq10
returns-else-last-eq10 c =
    let no = c.if-last-eq10.false in
    grind (arith, nat_tests) ∙ ended-other c.args.bytes.now c.in-Some.prefix.now c.args.line.now c.in-Some.last.now c.in-Some.ensures.cases.0 no
