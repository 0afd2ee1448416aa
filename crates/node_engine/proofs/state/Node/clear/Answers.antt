use Rattle.std.proofs.Common.{sym}
use Rattle.rdma_types.specs.declared.answers.Answer.TheVariants as answer
use Rattle.node_rules.specs.Lines.{answering, clearing}
use Rattle.node_engine.proofs.Parts.{does_as}
use Rattle.node_engine.proofs.OneTurn.{done_clears, other_clears}
use Rattle.node_engine.proofs.state.Node.clear.Goals as goal

pub returns-then-is_done : goal.returns-then-is_done
returns-then-is_done g c = does_as (clearing c.args.file answer.Done c.args.self.now) (clearing c.args.file c.args.answer c.args.self.now) _ _ _ _ (done_clears c.args.file c.args.answer c.args.self.now (sym c.if-is_done.ensures)) c.remove.ensures

pub returns-else-is_done : goal.returns-else-is_done
returns-else-is_done g c = does_as (answering c.args.answer c.args.self.now) (clearing c.args.file c.args.answer c.args.self.now) _ _ _ _ (other_clears c.args.file c.args.answer c.args.self.now (sym c.if-is_done.ensures)) c.answer.ensures
