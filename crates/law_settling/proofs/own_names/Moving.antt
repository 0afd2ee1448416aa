-- The steps of a device that make, stop and restore: one name comes or goes.
use Rattle.std.proofs.Common.{◌≡◌, ◌+◌, ◌⊎◌, ℕ, false, refl, ap, ◌∙◌, inl, inr}
use Rattle.std.specs.Prelude.{Option, Some, None, bytes_eq, count_by}
use Rattle.rdma_types.specs.Causes.{first_cause}
use Rattle.rdma_types.specs.declared.answers.Refusal.{Refusal}
use Rattle.rdma_types.specs.declared.names.Name.{Name}
use Rattle.protocol.specs.declared.events.Event.TheVariants as events
use Rattle.protocol.specs.declared.images.ContextImage.{ContextImage}
use Rattle.protocol.specs.DeviceStep as device
use Rattle.protocol.specs.DeviceStep.{device_step}
use Rattle.protocol.specs.Images.{context_of, image_of, moved}
use Rattle.protocol.specs.Refusals.{causes_of, has_context, refusal_of}
use Rattle.protocol.specs.State.{Context, Device, context_at, no_context}
use Rattle.law_devices.proofs.Tables.{name-named_there}
use Rattle.law_settling.proofs.own_names.Counting.{counted_push, counted_without, once_if}
use Rattle.law_settling.proofs.own_names.Stepping.{KeepsNames, keeps_none, there}

-- how many contexts of the device have the name
abbrev pub held : Name → Device → ℕ
held k d = count_by (λ c. bytes_eq c.name k) d.contexts

-- a name comes
pub record Gains (d : Device) (s : device.Step) (n : Name) : Type 0 where
  pub id : s.device.id ≡ d.id
  pub image : s.outcome.image ≡ None
  pub counts : (k : Name) → held k s.device ≡ held k d + once_if n k

-- a name goes into an image
pub record Leaves (d : Device) (s : device.Step) : Type 0 where
  pub id : s.device.id ≡ d.id
  pub taken : ContextImage
  pub image : s.outcome.image ≡ Some taken
  pub counts : (k : Name) → held k s.device + once_if taken.name k ≡ held k d

module _ (d : Device) where
  made : (n : Name) (r : Option Refusal) → KeepsNames d (device.by_refusal d (events.MakeContext n) r) ⊎ Gains d (device.by_refusal d (events.MakeContext n) r) n
  unfolding device.makes_context
  made n None = inr (record { id = refl; image = refl; counts = λ k. counted_push (λ (c : Context). bytes_eq c.name k) (device.new_context n) d.contexts })
  made n (Some r) = inl (keeps_none d _ _)

  pub making : (n : Name) → KeepsNames d (device_step d (events.MakeContext n)) ⊎ Gains d (device_step d (events.MakeContext n)) n
  unfolding device_step
  making n = made n (refusal_of d (events.MakeContext n))

  stopped : (n : Name) (r : Option Refusal) → first_cause (causes_of d (events.Stop n false)) ≡ r → KeepsNames d (device.by_refusal d (events.Stop n false) r) ⊎ Leaves d (device.by_refusal d (events.Stop n false) r)
  unfolding device.stops image_of
  stopped n None h =
      let has = there d n _ _ _ refl h in
      let name : (context_at d n).name ≡ n = name-named_there (λ (c : Context). c.name) no_context n d.contexts has in
      inr (record {
        id = refl;
        taken = image_of (context_at d n);
        image = refl;
        counts = λ k. counted_without (λ (c : Context). c.name) (context_at d n).name k d.contexts (ap (has_context d) name ∙ has);
      })
  stopped n (Some r) h = inl (keeps_none d _ _)

  pub stopping : (n : Name) → KeepsNames d (device_step d (events.Stop n false)) ⊎ Leaves d (device_step d (events.Stop n false))
  unfolding device_step refusal_of
  stopping n = stopped n (first_cause (causes_of d (events.Stop n false))) refl

  pub restoring : (image : ContextImage) → Gains d (device.done_by d (events.Restore image)) image.name
  unfolding device.restores context_of moved
  restoring image = record { id = refl; image = refl; counts = λ k. counted_push (λ (c : Context). bytes_eq c.name k) (moved (context_of image)) d.contexts }
