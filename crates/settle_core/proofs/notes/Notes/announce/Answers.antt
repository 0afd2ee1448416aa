use Rattle.std.proofs.Common.{◌≡◌, None, rules}
use Rattle.std.specs.Prelude.{option_map}
use Rattle.protocol.specs.Settle.{drained, link_at, settle_step, transmit}
use Rattle.world_core.specs.Lives.{link_view}
use Rattle.settle_core.proofs.Visits.{on_ok, runs_none}
use Rattle.settle_core.proofs.Cuts.{none_cuts, on_err_map, sent_cut}
use Rattle.settle_core.proofs.Parts.{announce_first, announce_then}
use Rattle.settle_core.proofs.Goings.{on_err}
use Rattle.settle_core.proofs.notes.Notes.announce.Goals as goal

pub returns-in_default-clause-ok : goal.returns-in_default-clause-ok
returns-in_default-clause-ok c s h =
    let none : None ≡ option_map link_view (link_at c.drain.new.world c.args.end.now) = search (rules, c.in_default.ensures) in
    runs_none c.drain.new.world c.drain.new.self c.args.end.now none (drained (settle_step s (transmit c.args.end.now)))
    (c.in_ok-drain.ensures.ok (settle_step s (transmit c.args.end.now)) (c.in_ok-_answer.ensures.ok c.args.self.now s h))

pub returns-clause-ok : goal.returns-clause-ok
returns-clause-ok c =
    on_ok c.send_if_running.result
    (λ goes s h. goes (drained (settle_step s (transmit c.args.end.now))) (c.in_ok-drain.ensures.ok (settle_step s (transmit c.args.end.now)) (c.in_ok-_answer.ensures.ok c.args.self.now s h))) c.send_if_running.ensures.ok

pub returns-in_err-_answer-clause-cut : goal.returns-in_err-_answer-clause-cut
returns-in_err-_answer-clause-cut c =
    on_err c.from_residual.result
    (none_cuts c.args.world.now c.transmit.new.world c.args.self.now _ c.in_err-_answer.ensures.err)

pub returns-in_err-drain-clause-cut : goal.returns-in_err-drain-clause-cut
returns-in_err-drain-clause-cut c =
    on_err c.from_residual-in_err-drain.result
    (λ s h. announce_first s c.args.end.now c.drain.new.world (sent_cut s c.args.end.now c.drain.new.world (c.in_err-drain.ensures.cut (settle_step s (transmit c.args.end.now)) (c.in_ok-_answer.ensures.ok c.args.self.now s h))))

pub returns-clause-cut : goal.returns-clause-cut
returns-clause-cut c =
    on_err_map c.send_if_running.result
    (λ cut s h. announce_then s c.args.end.now c.send_if_running.new.world (cut (drained (settle_step s (transmit c.args.end.now))) (c.in_ok-drain.ensures.ok (settle_step s (transmit c.args.end.now)) (c.in_ok-_answer.ensures.ok c.args.self.now s h)))) c.send_if_running.ensures.cut
