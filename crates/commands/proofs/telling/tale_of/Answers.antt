use Rattle.std.proofs.Common.{◌∙◌, [], Some, ap, subst, sym}
use Rattle.std.proofs.lemmas.Result.{IfOk-weaker}
use Rattle.evac_rules.specs.Evacuation.{NoSuch, evacuation}
use Rattle.evac_plan.specs.Answers.{IsFault}
use Rattle.evac_plan.specs.Steps.{Ends}
use Rattle.commands.specs.Stopping.{is_empty}
use Rattle.commands.proofs.Tales.{tale_is}
use Rattle.commands.proofs.telling.tale_of.Goals as goal

pub returns-in-Err-NoSuch : goal.returns-in-Err-NoSuch
returns-in-Err-NoSuch c = IfOk-weaker c.tale_of_none.result _ _ (λ tale is w kept.
    let s = evacuation w c.args.from c.args.targets.now in
    let e : Ends s [] (Some NoSuch) c.evacuate.new.world = subst (λ f. IsFault f w c.args.from c.args.targets.now c.evacuate.new.world) c.in-Err-NoSuch.field-0-is (c.in-Err-NoSuch.ensures.err w kept) in
    (tale_is s [] (Some NoSuch) c.evacuate.new.world tale.text.items e is.0, is.1 ∙ ap is_empty (sym e.fault))) c.tale_of_none.ensures
