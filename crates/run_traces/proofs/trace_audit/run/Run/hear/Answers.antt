use Rattle.std.proofs.Common.{refl, arith}
use Rattle.run_traces.proofs.Asked.{hear-other, hear-passed, hear-short}
use Rattle.run_traces.proofs.trace_audit.run.Run.hear.Goals as goal

pub returns-then-end-len : goal.returns-then-end-len
returns-then-end-len c =
    rw (← c.self.view_is) (hear-short _ c.self.inside.answer.items c.self.inside.at c.args.text.now refl (omega arith))

pub returns-then-not-is_line : goal.returns-then-not-is_line
returns-then-not-is_line c =
    rw (← c.self.view_is) (hear-other _ c.self.inside.answer.items c.self.inside.at c.args.text.now c.is_line.result refl (cc) c.if-not-is_line.true)

pub returns : goal.returns
returns c =
    rw (← c.self.view_is) (hear-passed _ c.self.inside.answer.items c.self.inside.at c.args.text.now c.is_line.result refl (cc) c.if-not-is_line.false)
