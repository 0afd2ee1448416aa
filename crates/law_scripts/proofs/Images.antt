-- A step of a device hands out no image but that of a stop, which keeps the rules.
use Rattle.std.proofs.Common.{◌≡◌, Bool, refl, sym, subst}
use Rattle.std.specs.Prelude.{Option, Some, None, IfSome}
use Rattle.rdma_types.specs.declared.answers.Refusal.{Refusal}
use Rattle.rdma_types.specs.declared.names.Name.{Name}
use Rattle.protocol.specs.declared.events.Event.{Event}
use Rattle.protocol.specs.declared.events.Event.TheVariants as events
use Rattle.protocol.specs.declared.images.ContextImage.{ContextImage}
use Rattle.protocol.specs.DeviceStep as device
use Rattle.protocol.specs.DeviceStep.{device_step}
use Rattle.protocol.specs.Images.{image_of}
use Rattle.protocol.specs.Lawful.{IsLawful}
use Rattle.protocol.specs.Refusals.{refusal_of, stop_causes}
use Rattle.protocol.specs.State.{Context, Device, context_at}
use Rattle.law_devices.specs.Sound.{IsSoundContext, IsSoundDevice}
use Rattle.law_devices.proofs.Founds.{live, within-context}
use Rattle.law_settling.proofs.steps.Bare.{bare}

-- the image, where there is one, keeps the rules
abbrev pub HandsOutLawful : device.Step → Type 0
HandsOutLawful s = IfSome s.outcome.image IsLawful

module _ (images : (c : Context) → IsSoundContext c → IsLawful (image_of c)) where
  stop_lawful : (d : Device) (name : Name) (alone : Bool) → IsSoundDevice d → HandsOutLawful (device_step d (events.Stop name alone))
  unfolding device_step refusal_of device.stops
  stop_lawful d name alone s = by (refusal_of d (events.Stop name alone)) refl
    where
      by : (r : Option Refusal) → refusal_of d (events.Stop name alone) ≡ r → HandsOutLawful (device.by_refusal d (events.Stop name alone) r)
      by (Some r) h = tt
      by None h = images (context_at d name) (live d name s (within-context d name _ _ (stop_causes d (context_at d name) alone) refl h).there).sound

  pub image_lawful : (d : Device) (e : Event) → IsSoundDevice d → HandsOutLawful (device_step d e)
  image_lawful d (events.Stop name alone) s = stop_lawful d name alone s
  image_lawful d other s = subst (λ (o : Option ContextImage). IfSome o IsLawful) (sym (bare d other tt)) tt
