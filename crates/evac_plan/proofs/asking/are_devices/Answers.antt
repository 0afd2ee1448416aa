use Rattle.std.proofs.Common.{rules, ◌≡◌, ◌∙◌, sym, true, false}
use Rattle.evac_plan.proofs.Askings.{first_lacks, others_decide}
use Rattle.evac_plan.proofs.asking.are_devices.Goals as goal

pub returns-then-not-is_among : goal.returns-then-not-is_among
returns-then-not-is_among c =
    let none : c.is_among.result ≡ false = search (rules, c.if-not-is_among.true) in
    first_lacks c.in_ok-ids.ids.items c.args.world.now.devices c.args.from c.args.targets.now c.as_slice-ids.result.now c.as_slice-ids.ensures.value c.in_ok-ids.ensures (sym c.is_among.ensures ∙ none)

pub returns : goal.returns
returns c =
    let there : c.is_among.result ≡ true = search (rules, c.if-not-is_among.false) in
    others_decide c.in_ok-ids.ids.items c.args.world.now.devices c.args.from c.args.targets.now c.as_slice-ids.result.now c.are_among.result c.as_slice-ids.ensures.value c.in_ok-ids.ensures (sym c.is_among.ensures ∙ there) c.are_among.ensures
