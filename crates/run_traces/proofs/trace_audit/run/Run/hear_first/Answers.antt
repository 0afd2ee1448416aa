use Rattle.std.proofs.Common.{ap, drop, Err}
use Rattle.run_traces.proofs.Asked.{hear-asked, hear-not, hear-unsaid}
use Rattle.run_traces.proofs.trace_audit.run.Run.hear_first.Goals as goal

pub returns-in-Err-NotEnabled : goal.returns-in-Err-NotEnabled
returns-in-Err-NotEnabled c =
    rw (← c.self.view_is) (hear-not (record { machine = c.self.inside.machine; verbs = c.self.inside.verbs; inner = c.self.inside.inner; rest = drop c.self.inside.at c.self.inside.answer.items }) c.args.verb c.args.text.now c.args.said.now c.given_by-given.result c.unwrap_or.result c.not_given.result c.given_by-given.ensures c.unwrap_or.ensures c.not_given.ensures (c.in-Err-NotEnabled.ensures.not_enabled.0 (ap Err c.in-Err-NotEnabled.field-0-is)))

pub returns-then-not-is_said : goal.returns-then-not-is_said
returns-then-not-is_said c =
    rw (← c.self.view_is) (hear-unsaid (record { machine = c.self.inside.machine; verbs = c.self.inside.verbs; inner = c.self.inside.inner; rest = drop c.self.inside.at c.self.inside.answer.items }) c.args.verb c.args.text.now c.args.said.now c.given_by-given.result c.unwrap_or.result c.in-Ok.answer c.is_said.result c.given_by-given.ensures c.unwrap_or.ensures c.in-Ok.ensures.answer c.is_said.ensures c.if-not-is_said.true)

pub returns : goal.returns
returns c = λ k.
    rw (← c.self.view_is) (hear-asked (record { machine = c.self.inside.machine; verbs = c.self.inside.verbs; inner = c.self.inside.inner; rest = drop c.self.inside.at c.self.inside.answer.items }) c.args.verb c.args.text.now c.args.said.now c.given_by-given.result c.unwrap_or.result c.in-Ok.answer c.is_said.result _ _ _ c.given_by-given.ensures c.unwrap_or.ensures c.in-Ok.ensures.answer c.is_said.ensures c.if-not-is_said.false c.in-Ok.ensures.enabled c.in-Ok.ensures.next c.clear.ensures.items c.in_ok-print_answer.ensures.ok k _ (c.hear.ensures k))
