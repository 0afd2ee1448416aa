use Rattle.std.proofs.Common.{rules, ◌≡◌, map, None, ◌∙◌}
use Rattle.std.specs.Prelude.{option_map, slice_get}
use Rattle.protocol.specs.State.{Device}
use Rattle.evac_plan.proofs.Askings.{all_read, more_read, none_read, shorter}
use Rattle.evac_plan.proofs.asking.device_ids.Goals as goal

pub loop-id-init : goal.loop-id-init
loop-id-init c = none_read (map (λ (d : Device). d.id) c.args.world.now.devices) c.new-ids.result.items c.new-ids.ensures.items

pub loop-id-smaller : goal.loop-id-smaller
loop-id-smaller c = shorter (λ (d : Device). d.id) c.args.world.now.devices c.loop-id.ids.items c.push.new.self.items c.len.result c.in-Some.id (c.len.ensures ∙ c.loop-id.ids.ok.0) c.in-Some.ensures c.in_ok-push.ensures.items

pub loop-id-preserved : goal.loop-id-preserved
loop-id-preserved c = more_read (λ (d : Device). d.id) c.args.world.now.devices c.loop-id.ids.items c.push.new.self.items c.len.result c.in-Some.id c.loop-id.invariant (c.len.ensures ∙ c.loop-id.ids.ok.0) c.in-Some.ensures c.in_ok-push.ensures.items

pub returns : goal.returns
returns c =
    let none : None ≡ option_map (λ (d : Device). d.id) (slice_get c.args.world.now.devices c.len.result) = search (rules, c.in_default.ensures) in
    all_read (λ (d : Device). d.id) c.args.world.now.devices c.loop-id.ids.items c.len.result c.loop-id.invariant (c.len.ensures ∙ c.loop-id.ids.ok.0) none
