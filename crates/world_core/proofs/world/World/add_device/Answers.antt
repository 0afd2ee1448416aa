-- A device more, whose id is its own.
use Rattle.std.proofs.Common.{◌≡◌, ◌∙◌, ◌∷◌, [], ◌++◌, false, refl, ap, sym, length, nat_eq, nat_le}
use Rattle.rdma_types.specs.Causes.{first_cause}
use Rattle.rdma_types.specs.Limits.{most_devices}
use Rattle.rdma_types.specs.Lists.{some}
use Rattle.rdma_types.specs.declared.answers.Answer.TheVariants as answer
use Rattle.protocol.specs.State.{World}
use Rattle.protocol.specs.WorldStep.{adds_device, has_device, same_address}
use Rattle.device_core.specs.Readings.{new_device}
use Rattle.world_core.specs.Causes.{device_causes}
use Rattle.indexmap.specs.IndexMap.{get}
use Rattle.world_core.specs.Places.{port_eq}
use Rattle.world_core.proofs.Causes.{free_address, not_taken}
use Rattle.world_core.proofs.Stepping.{added_makes, parts_more, put_noted}
use Rattle.world_core.proofs.Worlds.{passes, refused}
use Rattle.world_core.proofs.world.World.add_device.Goals as goal

pub returns-in-Some-clause-ok : goal.returns-in-Some-clause-ok
unfolding adds_device
returns-in-Some-clause-ok c = refused c.args.self.now (first_cause (device_causes c.args.self.now c.args.id c.args.address)) c.in-Some.refusal _ c.requires.ready.kept (sym c.device_refusal.ensures ∙ c.in-Some.is)

pub invariant_of-self-2 : goal.invariant_of-self-2
invariant_of-self-2 c =
    let place : c.len-place.result ≡ length c.self.inside.devices.items = c.len-place.ensures ∙ (c.reserve.ensures.len ∙ c.self.inside.devices.ok.0) in
    let free : has_device c.args.self.now c.args.id ≡ false =
    not_taken (has_device c.args.self.now c.args.id) (some (λ d. same_address d.address c.args.address) c.args.self.now.devices) (nat_le most_devices (length c.args.self.now.devices)) (sym c.device_refusal.ensures ∙ c.in_default.is) in
    let apart : some (λ d. same_address d.address c.args.address) c.args.self.now.devices ≡ false =
    free_address (has_device c.args.self.now c.args.id) (some (λ d. same_address d.address c.args.address) c.args.self.now.devices) (nat_le most_devices (length c.args.self.now.devices)) (sym c.device_refusal.ensures ∙ c.in_default.is) in
    parts_more c.args.self.now (λ k. get nat_eq c.self.inside.ids k) _ (λ a. get port_eq c.self.inside.ports a) _ _ c.self.inside.devices.items c.self.inside.stops.carried c.push_reserved.new.self.items c.in_ok-device.device c.args.id c.args.address
    (ap (λ (w : World). w.devices) c.self.view_is) c.self.invariant free apart c.in_ok-device.ensures
    (c.push_reserved.ensures.items ∙ ap (λ ds. ds ++ c.in_ok-device.device ∷ []) c.reserve.ensures.items)
    (put_noted nat_eq _ _ _ _ _ _ c.put_place.ensures place c.reserve-2.ensures.entries)
    (put_noted port_eq _ _ _ _ _ _ c.put_place-2.ensures place c.reserve-3.ensures.entries)

pub returns-clause-ok : goal.returns-clause-ok
unfolding adds_device
returns-clause-ok c =
    let v : World = record { devices = c.self.inside.devices.items; sent = c.self.inside.fabric; carried = c.self.inside.stops.carried; stopped = c.self.inside.stops.stopped } in
    passes c.args.self.now (first_cause (device_causes c.args.self.now c.args.id c.args.address)) _ answer.Done _ (sym c.device_refusal.ensures ∙ c.in_default.is)
    (record {
      answered = refl;
      left = added_makes v c.args.self.now _ (new_device c.args.id c.args.address) c.self.view_is c.requires.ready.kept
          (ap (λ ds. record v { devices = ds }) (c.push_reserved.ensures.items ∙ (ap (λ ds. ds ++ c.in_ok-device.device ∷ []) c.reserve.ensures.items ∙ ap (λ d. c.self.inside.devices.items ++ d ∷ []) c.in_ok-device.ensures)));
    })
