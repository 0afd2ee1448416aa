-- A refusal that is due is answered.
use Rattle.std.proofs.Common.{◌≡◌, ℕ, Option, Some, None, ap, ◌∙◌, if◌then◌else◌}
use Rattle.rdma_types.specs.declared.answers.Answer.TheVariants as answer
use Rattle.rdma_types.specs.declared.answers.Refusal.{Refusal}
use Rattle.rdma_types.specs.declared.names.Name.{Name}
use Rattle.protocol.specs.declared.events.Event.{Event}
use Rattle.protocol.specs.declared.events.Event.TheVariants as event
use Rattle.protocol.specs.declared.events.WorldEvent.{WorldEvent}
use Rattle.protocol.specs.declared.events.WorldEvent.TheVariants as world_event
use Rattle.protocol.specs.declared.images.ContextImage.{ContextImage}
use Rattle.protocol.specs.DeviceStep as device
use Rattle.protocol.specs.DeviceStep.{device_step}
use Rattle.protocol.specs.Refusals.{refusal_of}
use Rattle.protocol.specs.State.{Device, World, device_at}
use Rattle.protocol.specs.WorldStep.{Step, adds_device, answers, by_refusal, carried_image, connects, is_done, makes_context, numbered, ran, releases, restored_by, restores, restores_image, runs, steps_at, stops, without_image, world_step}
use Rattle.world_core.specs.Causes.{image_refusal, or_later, world_refusal}

by_world : (w : World) (o : Option Refusal) (s : Step) (r : Refusal) → o ≡ Some r → (by_refusal w o s).answer ≡ answer.Refused r
by_world w o s r h = ap (λ x. (by_refusal w x s).answer) h

by_either : (w : World) (first later : Option Refusal) (s : Step) (r : Refusal) → (later ≡ Some r → s.answer ≡ answer.Refused r) → or_later first later ≡ Some r → (by_refusal w first s).answer ≡ answer.Refused r
by_either w (Some r') later s r so h = ap (λ x. answer.Refused x) (let q : r' ≡ r = cc in q)
by_either w None later s r so h = so h

by_device : (w : World) (d : Device) (e : Event) (r : Refusal) → refusal_of d e ≡ Some r → (runs w d e).answer ≡ answer.Refused r
unfolding device_step ran numbered
by_device w d e r h = ap (λ o. (ran w (device.by_refusal d e o)).answer) h

put_back : (w : World) (n : Name) (s : Step) (r : Refusal) → s.answer ≡ answer.Refused r → (restored_by w n s).answer ≡ answer.Refused r
put_back w n s r h = ap (λ b. (if b then answers (without_image s.world n) s.answer else s).answer) (ap (λ a. is_done a) h) ∙ h

by_image : (w : World) (n : Name) (k : ℕ) (o : Option ContextImage) (r : Refusal) → image_refusal w k o ≡ Some r → (restores_image w n k o).answer ≡ answer.Refused r
by_image w n k None r h = cc
by_image w n k (Some image) r h = put_back w n (runs w (device_at w k) (event.Restore image)) r (by_device w (device_at w k) (event.Restore image) r h)

pub answered : (w : World) (e : WorldEvent) (r : Refusal) → world_refusal w e ≡ Some r → (world_step w e).answer ≡ answer.Refused r
unfolding world_step adds_device makes_context steps_at connects stops restores releases
answered w (world_event.AddDevice id address) r h = by_world w _ _ r h
answered w (world_event.MakeContext n k) r h = by_either w _ _ _ r (by_device w _ _ r) h
answered w (world_event.At e) r h = by_either w _ _ _ r (by_device w _ _ r) h
answered w (world_event.Connect one two terms) r h = by_world w _ _ r h
answered w (world_event.Stop n) r h = by_either w _ _ _ r (by_device w _ _ r) h
answered w (world_event.Restore n k) r h = by_either w _ _ _ r (by_image w n k (carried_image w n) r) h
answered w (world_event.Release n k) r h = by_either w _ _ _ r (by_device w _ _ r) h
answered w (world_event.Deliver k) r h = absurd (cc)
answered w (world_event.Lose k) r h = absurd (cc)
answered w (world_event.Wire k) r h = absurd (cc)
