use Rattle.std.proofs.Common.{◌∙◌, ap}
use Rattle.node_rules.specs.Lines.{counting}
use Rattle.serve_rules.specs.Server.{Server}
use Rattle.serve_engine.proofs.LineSteps.{line_done}
use Rattle.serve_engine.proofs.state.Server.step_line.Goals as goal

pub returns : goal.returns
returns c =
    let counted = c.counted.ensures ∙ ap (λ (s : Server). counting s.tallies.made c.in-Ok.outcome.answer) c.self.view_is in
    line_done c.args.event.now _ c.args.self.now _ _ _ c.in-Ok.outcome _ c.in-Ok.ensures.server c.in-Ok.ensures.outcome c.in_ok-queue.ensures c.end_of.ensures c.in_ok-wake_end.ensures counted
