-- What is told of bytes whose answer is in a draft.
use Rattle.std.proofs.Common.{◌≡◌, ◌∙◌, List, [], ap, refl, subst, sym}
use Rattle.std.specs.Prelude.{IfNone, IfOk, IsOk, OnErr, OnOk, Option, Some, None, Result, Ok, Err}
use Rattle.std.specs.declared.alloc.AllocError.{AllocError}
use Rattle.rdma_types.specs.declared.answers.ArrivalEffect.{ArrivalEffect}
use Rattle.rdma_types.specs.declared.answers.ArrivalEffect.TheVariants as took
use Rattle.rdma_types.specs.declared.answers.DropReason.TheVariants as why
use Rattle.rdma_types.specs.declared.answers.Sent.{Sent}
use Rattle.protocol.specs.declared.events.Event.{Event}
use Rattle.protocol.specs.DeviceStep.{Step, device_step}
use Rattle.protocol.specs.State.{Device}
use Rattle.law_arrivals.specs.Touched.{ChangesOnly}
use Rattle.law_arrivals.specs.Turns.{IsOfTurn, is_touched_by_event}
use Rattle.law_arrivals.proofs.Arriving.{changes-nothing}
use Rattle.device_core.specs.Done.{IsDone, arrived, told_arrival, told_effect, told_memory, told_taken}
use Rattle.device_core.proofs.Arrivals.{taken_with}
use Rattle.device_core.proofs.Steps.{step-keeps}
use Rattle.device_core.proofs.Within.{AreWithin}

-- ---- what an end did

pub record ToldInto (d new : Device) (e : Event) (draft : List Sent) (told : Result ArrivalEffect AllocError) : Type 0 where
  pub ok : IfOk told (λ t. device_step d e ≡ record { device = new; outcome = arrived t draft })
  pub err : OnErr told (new ≡ d)

pub told-into : (d new : Device) (e : Event) (draft : List Sent) (r : Result (Option ArrivalEffect) AllocError) (told : Result ArrivalEffect AllocError) → told ≡ told_effect r → IfOk r (λ o. IfNone o (draft ≡ []))
    → IsDone d e new (told_memory (told_arrival (told_taken (taken_with draft r)))) → ToldInto d new e draft told
told-into d new e draft r told is empty done = subst (ToldInto d new e draft) (sym is) (by r empty done)
  where
    by : (x : Result (Option ArrivalEffect) AllocError) → IfOk x (λ o. IfNone o (draft ≡ [])) → IsDone d e new (told_memory (told_arrival (told_taken (taken_with draft x)))) → ToldInto d new e draft (told_effect x)
    by (Ok None) none was = record { ok = was ∙ ap (λ xs. record { device = new; outcome = arrived (took.Silent why.Unknown) xs }) (sym none); err = tt }
    by (Ok (Some t)) none was = record { ok = was; err = tt }
    by (Err f) none was = record { ok = tt; err = was.0 }

-- .. where there was memory
pub ok-told : (r : Result (Option ArrivalEffect) AllocError) (told : Result ArrivalEffect AllocError) → told ≡ told_effect r → IsOk r → IsOk told
ok-told r told is sure = subst IsOk (sym is) (by r sure)
  where
    by : (x : Result (Option ArrivalEffect) AllocError) → IsOk x → IsOk (told_effect x)
    by (Ok None) o = refl
    by (Ok (Some t)) o = refl
    by (Err f) o = absurd (cc)

-- what holds whatever is told
pub on-ok : {T E : Type 0} (r : Result T E) (P : Type 0) → P → OnOk r P
on-ok (Ok x) P h = h
on-ok (Err e) P h = tt

-- ---- what the device keeps

pub record Kept (d new : Device) (e : Event) : Type 0 where
  pub id : new.id ≡ d.id
  pub address : new.address ≡ d.address
  pub touched : AreWithin d → IsOfTurn e → ChangesOnly (is_touched_by_event d e) d new

pub told-kept : (d new : Device) (e : Event) (draft : List Sent) (r : Result ArrivalEffect AllocError) → IfOk r (λ t. device_step d e ≡ record { device = new; outcome = arrived t draft }) → OnErr r (new ≡ d) → Kept d new e
told-kept d new e draft (Ok t) ok err = record {
  id = sym (ap (λ (s : Step). s.device.id) ok) ∙ (step-keeps d e).id;
  address = sym (ap (λ (s : Step). s.device.address) ok) ∙ (step-keeps d e).address;
  touched = λ within turn. subst (ChangesOnly (is_touched_by_event d e) d) (ap (λ (s : Step). s.device) ok) (within e turn);
}
told-kept d new e draft (Err f) ok err = record {
  id = ap (λ (x : Device). x.id) err;
  address = ap (λ (x : Device). x.address) err;
  touched = λ within turn. subst (ChangesOnly (is_touched_by_event d e) d) (sym err) (changes-nothing (is_touched_by_event d e) d);
}
