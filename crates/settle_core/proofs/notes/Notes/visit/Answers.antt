use Rattle.std.proofs.Common.{◌≡◌, ◌∙◌, sym, true, false, None, rules}
use Rattle.std.specs.Prelude.{option_map}
use Rattle.protocol.specs.Settle.{link_at}
use Rattle.world_core.specs.Lives.{link_view}
use Rattle.settle_core.specs.Steps.{IsLinkAt, view_resumes}
use Rattle.settle_core.proofs.Visits.{on_ok, visits_none, visits_other, visits_resuming}
use Rattle.settle_core.proofs.Cuts.{on_err_map}
use Rattle.settle_core.proofs.Parts.{visit_other_cut, visit_resuming_cut}
use Rattle.settle_core.proofs.notes.Notes.visit.Goals as goal

pub returns-in_default-clause-ok : goal.returns-in_default-clause-ok
returns-in_default-clause-ok c =
    let none : None ≡ option_map link_view (link_at c.args.world.now c.args.end.now) = search (rules, c.in_default.ensures) in
    visits_none c.args.world.now c.args.self.now c.args.end.now none

pub returns-then-is_resuming-clause-ok : goal.returns-then-is_resuming-clause-ok
returns-then-is_resuming-clause-ok c =
    let at : IsLinkAt c.args.world.now c.args.end.now c.in-Some.link = search (rules, c.in-Some.ensures) in
    let yes : view_resumes c.in-Some.link ≡ true = sym c.is_resuming.ensures ∙ search (rules, c.if-is_resuming.true) in
    on_ok c.announce.result (visits_resuming c.args.world.now c.announce.new.world c.args.self.now c.announce.new.self c.args.end.now c.in-Some.link at yes) c.announce.ensures.ok

pub returns-clause-ok : goal.returns-clause-ok
returns-clause-ok c =
    let at : IsLinkAt c.args.world.now c.args.end.now c.in-Some.link = search (rules, c.in-Some.ensures) in
    let not : view_resumes c.in-Some.link ≡ false = sym c.is_resuming.ensures ∙ search (rules, c.if-is_resuming.false) in
    on_ok c.send_if_running.result (visits_other c.args.world.now c.send_if_running.new.world c.args.self.now c.send_if_running.new.self c.args.end.now c.in-Some.link at not) c.send_if_running.ensures.ok

pub returns-then-is_resuming-clause-cut : goal.returns-then-is_resuming-clause-cut
returns-then-is_resuming-clause-cut c =
    let at : IsLinkAt c.args.world.now c.args.end.now c.in-Some.link = search (rules, c.in-Some.ensures) in
    let yes : view_resumes c.in-Some.link ≡ true = sym c.is_resuming.ensures ∙ search (rules, c.if-is_resuming.true) in
    on_err_map c.announce.result (visit_resuming_cut c.args.world.now c.announce.new.world c.args.self.now c.args.end.now c.in-Some.link at yes) c.announce.ensures.cut

pub returns-clause-cut : goal.returns-clause-cut
returns-clause-cut c =
    let at : IsLinkAt c.args.world.now c.args.end.now c.in-Some.link = search (rules, c.in-Some.ensures) in
    let not : view_resumes c.in-Some.link ≡ false = sym c.is_resuming.ensures ∙ search (rules, c.if-is_resuming.false) in
    on_err_map c.send_if_running.result (visit_other_cut c.args.world.now c.send_if_running.new.world c.args.self.now c.args.end.now c.in-Some.link at not) c.send_if_running.ensures.cut
