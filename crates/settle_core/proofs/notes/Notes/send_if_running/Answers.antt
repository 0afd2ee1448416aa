use Rattle.std.proofs.Common.{◌≡◌, ◌∙◌, sym, true, false, rules}
use Rattle.settle_core.specs.Steps.{view_may_send, view_runs}
use Rattle.settle_core.proofs.Visits.{on_ok, runs_not, runs_on}
use Rattle.settle_core.proofs.NothingToSend.{runs_unsent}
use Rattle.settle_core.proofs.Cuts.{on_err_map}
use Rattle.settle_core.proofs.Parts.{running_cut}
use Rattle.settle_core.proofs.notes.Notes.send_if_running.Goals as goal
use Rattle.settle_core.proofs.notes.Notes.send_if_running.Goals.{else-is_running-via-then-is_running+else-may_send, else-is_running-via-else-is_running}

pub returns-then-may_send-clause-ok : goal.returns-then-may_send-clause-ok
returns-then-may_send-clause-ok c =
    let yes : view_runs c.args.link.now ≡ true = sym c.is_running.ensures ∙ search (rules, c.if-is_running.true) in
    on_ok c.send_all.result (runs_on c.args.world.now c.send_all.new.world c.args.self.now c.send_all.new.self c.args.end.now c.args.link.now c.requires.link yes) c.send_all.ensures.ok

pub returns-then-may_send-clause-cut : goal.returns-then-may_send-clause-cut
returns-then-may_send-clause-cut c =
    let yes : view_runs c.args.link.now ≡ true = sym c.is_running.ensures ∙ search (rules, c.if-is_running.true) in
    on_err_map c.send_all.result (running_cut c.args.world.now c.send_all.new.world c.args.self.now c.args.end.now c.args.link.now c.requires.link yes) c.send_all.ensures.cut

pub returns-clause-ok : goal.returns-clause-ok
returns-clause-ok c =
    (elim c.else-is_running.branch [
      | else-is_running-via-then-is_running+else-may_send w ↦
          let none : view_may_send c.args.link.now ≡ false = sym w.may_send.ensures ∙ search (rules, w.if-may_send.false) in
          runs_unsent c.args.world.now c.args.self.now c.args.end.now c.args.link.now c.requires.link none
      | else-is_running-via-else-is_running w ↦
          let not : view_runs c.args.link.now ≡ false = sym c.is_running.ensures ∙ search (rules, w.if-is_running.false) in
          runs_not c.args.world.now c.args.self.now c.args.end.now c.args.link.now c.requires.link not
    ])
