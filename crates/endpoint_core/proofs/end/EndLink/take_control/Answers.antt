use Rattle.std.proofs.Common.{◌≡◌, ◌∙◌, ap, sym}
use Rattle.transport.specs.Table.{moving_of}
use Rattle.protocol.specs.EndWords.{linked}
use Rattle.endpoint_core.specs.declared.end.EndLink.{EndLink}
use Rattle.endpoint_core.specs.Answers.{sent_by}
use Rattle.endpoint_core.specs.Ends.{link_in}
use Rattle.endpoint_core.proofs.Moved.{Takes, control-step, moved_step}
use Rattle.endpoint_core.proofs.end.EndLink.take_control.Goals as goal

pub returns-clause-step : goal.returns-clause-step
returns-clause-step c = λ ctx e pool regions same.
    let l = c.args.self.now in
    let l' = c.go_on.new.self in
    let takes : Takes l.moves.recorded l.moves.own c.take-row.result c.args.control = record {
      paused = λ is. (c.take-row.ensures.paused.0 is).0;
      resumed = λ is. (let x = c.take-row.ensures.resumed.0 is in (x.0, x.1, x.2));
      again = λ is. (let x = c.take-row.ensures.again.0 is in (x.0, x.1));
      running = λ is. (c.take-row.ensures.running.0 is).0;
    } in
    let moves : l'.moves ≡ c.take-row.new.self = ap (λ (x : EndLink). x.moves) c.go_on.ensures.same in
    control-step ctx e pool regions l l' c.take-row.result c.args.control takes c.take-row.ensures.row
    (ap moving_of moves ∙ c.take-row.ensures.rule) (c.go_on.ensures.next pool)
    (c.go_on.ensures.same ∙ ap (λ m. record l { requester = l'.requester; moves = m }) (sym moves)) same
    ∙ (ap (λ t. record (moved_step ctx e regions (link_in pool l') c.take-row.result c.args.control) { took = t }) (sym c.took_of.ensures)
    ∙ ap (λ r. record { context = linked ctx e (link_in pool l'); took = c.took_of.result; sent = sent_by regions (link_in pool l') r }) (sym c.reply_of.ensures))
