use Rattle.std.proofs.Common.{◌≡◌, ◌∙◌, sym, refl, true, Some, None, rules}
use Rattle.std.specs.Prelude.{option_map}
use Rattle.indexmap.specs.IndexMap.{get}
use Rattle.rdma_types.specs.Lists.{same_object}
use Rattle.protocol.specs.Settle.{link_at}
use Rattle.world_core.specs.Lives.{link_view}
use Rattle.settle_core.specs.Waits.{may_wait}
use Rattle.settle_core.proofs.Ends.{both_ok}
use Rattle.settle_core.proofs.EndTimers.{rnr_none, rnr_not, rnr_off, rnr_on}
use Rattle.settle_core.proofs.EndTimers.{rnr_over}
use Rattle.settle_core.proofs.Goings.{on_err}
use Rattle.settle_core.proofs.Parts.{rnr_cut, settled_cuts}
use Rattle.settle_core.proofs.notes.Notes.step_timer.Goals as goal

pub returns-in_default-clause-ok : goal.returns-in_default-clause-ok
returns-in_default-clause-ok c =
    let none : None ≡ option_map link_view (link_at c.args.world.now c.args.end.now) = search (rules, c.in_default.ensures) in
    rnr_none c.args.world.now c.args.self.now c.args.end.now none

pub returns-then-not-link-clause-ok : goal.returns-then-not-link-clause-ok
returns-then-not-link-clause-ok c =
    let there : Some c.in-Some.link ≡ option_map link_view (link_at c.args.world.now c.args.end.now) = search (rules, c.in-Some.ensures) in
    rnr_off c.args.world.now c.args.self.now c.args.end.now c.in-Some.link there (search (rules, c.if-not-link.true))

pub returns-then-not-may_step-clause-ok : goal.returns-then-not-may_step-clause-ok
returns-then-not-may_step-clause-ok c =
    let there : Some c.in-Some.link ≡ option_map link_view (link_at c.args.world.now c.args.end.now) = search (rules, c.in-Some.ensures) in
    rnr_not c.args.world.now c.args.self.now c.args.end.now c.in-Some.link c.has_ended-partner_ended.result there c.has_ended-partner_ended.ensures (sym c.may_step.ensures ∙ search (rules, c.if-not-may_step.true))

pub returns-clause-ok : goal.returns-clause-ok
returns-clause-ok c =
    let there : Some c.in-Some.link ≡ option_map link_view (link_at c.args.world.now c.args.end.now) = search (rules, c.in-Some.ensures) in
    let yes : may_wait c.in-Some.link c.has_ended-partner_ended.result (get same_object c.args.self.now.waited c.args.end.now) ≡ true = sym c.may_step.ensures ∙ search (rules, c.if-not-may_step.false) in
    both_ok c.note.result
    (rnr_on c.args.world.now c.step.new.world c.args.self.now c.step.new.self c.note.new.self c.args.end.now c.in-Some.link (record { una = c.in-Some.link.una; partner_ended = c.has_ended-partner_ended.result }) there refl c.has_ended-partner_ended.ensures (search (rules, c.if-not-link.false)) yes c.in_ok-step.ensures.ok c.note.ensures.changed c.note.ensures.seen)
    c.note.ensures.waited c.note.ensures.stepped

pub returns-in_err-step-clause-cut : goal.returns-in_err-step-clause-cut
returns-in_err-step-clause-cut c =
    let there : Some c.in-Some.link ≡ option_map link_view (link_at c.args.world.now c.args.end.now) = search (rules, c.in-Some.ensures) in
    let yes : may_wait c.in-Some.link c.has_ended-partner_ended.result (get same_object c.args.self.now.waited c.args.end.now) ≡ true = sym c.may_step.ensures ∙ search (rules, c.if-not-may_step.false) in
    on_err c.from_residual.result
    (rnr_cut c.args.world.now c.step.new.world c.args.self.now c.args.end.now c.in-Some.link c.has_ended-partner_ended.result there c.has_ended-partner_ended.ensures (search (rules, c.if-not-link.false)) yes c.in_err-step.ensures.cut)

pub returns-clause-cut : goal.returns-clause-cut
returns-clause-cut c =
    let there : Some c.in-Some.link ≡ option_map link_view (link_at c.args.world.now c.args.end.now) = search (rules, c.in-Some.ensures) in
    let yes : may_wait c.in-Some.link c.has_ended-partner_ended.result (get same_object c.args.self.now.waited c.args.end.now) ≡ true = sym c.may_step.ensures ∙ search (rules, c.if-not-may_step.false) in
    on_err c.note.result
    (rnr_cut c.args.world.now c.step.new.world c.args.self.now c.args.end.now c.in-Some.link c.has_ended-partner_ended.result there c.has_ended-partner_ended.ensures (search (rules, c.if-not-link.false)) yes
    (settled_cuts c.args.world.now c.step.new.world c.args.self.now c.step.new.self (rnr_over c.args.end.now) c.in_ok-step.ensures.ok))
