use Rattle.std.proofs.Common.{◌≡◌, ◌==◌, ◌<◌, false, length, arith, sym, ◌∙◌}
use Rattle.std.proofs.lemmas.Bool.Decides.{nat_tests}
use Rattle.run_traces.proofs.Loop.{closing-more}
use Rattle.run_traces.proofs.trace_audit.auditing.Auditor.close.Goals as goal

pub returns-else-is_empty : goal.returns-else-is_empty
returns-else-is_empty c =
    let e : (length c.args.behind.now == 0) ≡ false = sym c.is_empty.ensures ∙ c.if-is_empty.false in
    let some : 0 < length c.args.behind.now = grind (arith, nat_tests) in
    rw c.bad.ensures (closing-more c.args.number c.args.self.now.course c.args.behind.now some)
