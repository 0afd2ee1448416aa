use Rattle.std.proofs.Common.{rules, ◌≡◌, map, None, ◌∙◌}
use Rattle.std.specs.Prelude.{option_map, slice_get}
use Rattle.protocol.specs.State.{Context, device_at}
use Rattle.evac_plan.proofs.Askings.{all_read, more_read, none_read, shorter}
use Rattle.evac_plan.proofs.asking.names_on.Goals as goal

pub loop-name-init : goal.loop-name-init
loop-name-init c = none_read (map (λ (x : Context). x.name) (device_at c.args.world.now c.args.device).contexts) c.new-names.result.items c.new-names.ensures.items

pub loop-name-smaller : goal.loop-name-smaller
loop-name-smaller c = shorter (λ (x : Context). x.name) (device_at c.args.world.now c.args.device).contexts c.loop-name.names.items c.push.new.self.items c.len.result c.in-Some.name (c.len.ensures ∙ c.loop-name.names.ok.0) c.in-Some.ensures c.in_ok-push.ensures.items

pub loop-name-preserved : goal.loop-name-preserved
loop-name-preserved c = more_read (λ (x : Context). x.name) (device_at c.args.world.now c.args.device).contexts c.loop-name.names.items c.push.new.self.items c.len.result c.in-Some.name c.loop-name.invariant (c.len.ensures ∙ c.loop-name.names.ok.0) c.in-Some.ensures c.in_ok-push.ensures.items

pub returns : goal.returns
returns c =
    let none : None ≡ option_map (λ (x : Context). x.name) (slice_get (device_at c.args.world.now c.args.device).contexts c.len.result) = search (rules, c.in_default.ensures) in
    all_read (λ (x : Context). x.name) (device_at c.args.world.now c.args.device).contexts c.loop-name.names.items c.len.result c.loop-name.invariant (c.len.ensures ∙ c.loop-name.names.ok.0) none
