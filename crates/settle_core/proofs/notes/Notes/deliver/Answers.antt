use Rattle.std.proofs.Common.{◌∙◌, sym, rules}
use Rattle.settle_core.proofs.Visits.{delivered_not, delivered_one, on_ok}
use Rattle.settle_core.proofs.Cuts.{deliver_cuts, on_err_map}
use Rattle.settle_core.proofs.notes.Notes.deliver.Goals as goal

pub returns-then-not-is_pending-clause-ok : goal.returns-then-not-is_pending-clause-ok
returns-then-not-is_pending-clause-ok c = delivered_not c.args.world.now c.args.self.now c.args.k (sym c.is_pending.ensures ∙ search (rules, c.if-not-is_pending.true))

pub returns-clause-ok : goal.returns-clause-ok
returns-clause-ok c =
    on_ok c.step.result (delivered_one c.args.world.now c.step.new.world c.args.self.now c.step.new.self c.args.k (sym c.is_pending.ensures ∙ search (rules, c.if-not-is_pending.false))) c.step.ensures.ok

pub returns-clause-cut : goal.returns-clause-cut
returns-clause-cut c = on_err_map c.step.result (deliver_cuts c.args.world.now c.step.new.world c.args.self.now c.args.k (sym c.is_pending.ensures ∙ search (rules, c.if-not-is_pending.false))) c.step.ensures.cut
