use Rattle.std.proofs.Common.{◌+◌, ◌-◌, ap, arith}
use Rattle.node_rules.specs.Node.{Node}
use Rattle.node_rules.proofs.Joining.{comes_on}
use Rattle.node_rules.specs.Serve.{serving, turns}
use Rattle.node_engine.proofs.Parts.{fails_as, fails_if, fails_on, made_as}
use Rattle.node_engine.proofs.Steps.{all_turned, turns_begin, turns_fails, turns_next}
use Rattle.node_engine.proofs.state.Node.serve.Goals as goal

pub loop-init : goal.loop-init
loop-init g c = turns_begin c.args.turns c.begin_serving.new.self _

pub loop-preserved : goal.loop-preserved
loop-preserved g c = comes_on (turns c.args.turns c.begin_serving.new.self) (turns (c.args.turns - c.loop.counter) c.loop.self) (turns (c.args.turns - (c.loop.counter + 1)) c.turn.new.self) _ _ _ c.loop.invariant (turns_next c.args.turns c.loop.counter c.loop.self c.turn.new.self _ _ (omega (arith, c.loop-test.true)) c.in_ok-turn.ensures)

pub returns-in_err-turn : goal.returns-in_err-turn
returns-in_err-turn g c =
    fails_as (turns c.args.turns (serving c.args.self.now)) _ c.in_err-turn.field-0.0 _ _ c.from_residual.result c.from_residual.ensures.1
    (fails_if (turns c.args.turns c.begin_serving.new.self) (turns c.args.turns (serving c.args.self.now)) c.in_err-turn.field-0.0 _ _ (ap (λ (k : Node). turns c.args.turns k) c.begin_serving.ensures) (fails_on (turns c.args.turns c.begin_serving.new.self) (turns (c.args.turns - c.loop.counter) c.loop.self) c.in_err-turn.field-0.0 _ _ _ c.loop.invariant (turns_fails c.args.turns c.loop.counter c.loop.self c.in_err-turn.field-0.0 _ _ (omega (arith, c.loop-test.true)) c.in_err-turn.ensures)))

pub returns : goal.returns
returns g c = made_as (turns c.args.turns c.begin_serving.new.self) (turns c.args.turns (serving c.args.self.now)) c.loop.self _ _ (ap (λ (k : Node). turns c.args.turns k) c.begin_serving.ensures) (all_turned c.args.turns c.loop.counter (turns c.args.turns c.begin_serving.new.self) c.loop.self _ _ (omega (arith, c.loop-test.false)) c.loop.invariant)
