-- What an event does, from its refusal.
use Rattle.std.proofs.Common.{◌≡◌, Bool, List, true, false, refl, sym, ap, ◌∙◌, subst}
use Rattle.std.specs.Prelude.{◌&&◌, not, if◌then◌else◌, Some, None, Result, Ok, Err, OnErr, IfOk}
use Rattle.std.specs.Result.{result_err}
use Rattle.rdma_types.specs.Causes.{Cause, first_cause}
use Rattle.rdma_types.specs.declared.answers.Answer.TheVariants as answer
use Rattle.rdma_types.specs.declared.answers.Refusal.{Refusal}
use Rattle.rdma_types.specs.declared.answers.Refusal.TheVariants.{NoSuch, Stopped}
use Rattle.rdma_types.specs.declared.names.Name.{Name}
use Rattle.protocol.specs.declared.events.Event.{Event}
use Rattle.protocol.specs.declared.images.Outcome.{Outcome}
use Rattle.protocol.specs.DeviceStep.{Step, answers, by_refusal, device_step, done_by}
use Rattle.protocol.specs.Events.{IsLawfulEvent}
use Rattle.protocol.specs.Refusals as rule
use Rattle.protocol.specs.Refusals.{causes_of, has_context, has_husk, within}
use Rattle.protocol.specs.State.{Context, Device, context_at}
use Rattle.context_core.specs.Faults.{refusal_of}
use Rattle.context_core.specs.declared.ContextFault.{ContextFault}
use Rattle.context_core.specs.declared.ContextFault.TheVariants.{Refused, OutOfMemory}
use Rattle.law_devices.specs.Sound.{GivesNames, IsSoundDevice}
use Rattle.law_devices.proofs.Law.{stays-sound}
use Rattle.device_core.specs.Done.{IsDone, told_by, told_plainly}

-- ---- refusals

-- a refused event changes nothing
pub step-refused : (d : Device) (e : Event) (r : Refusal) → first_cause (causes_of d e) ≡ Some r → device_step d e ≡ answers d (answer.Refused r)
unfolding device_step rule.refusal_of
step-refused d e r h = ap (by_refusal d e) h

pub step-done : (d : Device) (e : Event) → first_cause (causes_of d e) ≡ None → device_step d e ≡ done_by d e
unfolding device_step rule.refusal_of
step-done d e h = ap (by_refusal d e) h

-- where the context lives, the causes that speak of it count
pub within-there : (d : Device) (n : Name) (causes : Context → List Cause) → has_context d n ≡ true → first_cause (within d n causes) ≡ first_cause (causes (context_at d n))
unfolding first_cause
within-there d n causes h =
    ap (λ b. if (not b && not (has_husk d n)) then Some NoSuch else if not (has_context d n) then Some Stopped else first_cause (causes (context_at d n))) h
    ∙ ap (λ b. if not b then Some Stopped else first_cause (causes (context_at d n))) h

-- elsewhere it is a husk, or nothing
pub within-husk : (d : Device) (n : Name) (causes : Context → List Cause) → has_context d n ≡ false → has_husk d n ≡ true → first_cause (within d n causes) ≡ Some Stopped
unfolding first_cause
within-husk d n causes h k =
    ap (λ b. if (not (has_context d n) && not b) then Some NoSuch else if not (has_context d n) then Some Stopped else first_cause (causes (context_at d n))) k
    ∙ (ap (λ b. if (not b && false) then Some NoSuch else if not (has_context d n) then Some Stopped else first_cause (causes (context_at d n))) h
    ∙ ap (λ b. if not b then Some Stopped else first_cause (causes (context_at d n))) h)

pub within-nothing : (d : Device) (n : Name) (causes : Context → List Cause) → has_context d n ≡ false → has_husk d n ≡ false → first_cause (within d n causes) ≡ Some NoSuch
unfolding first_cause
within-nothing d n causes h k =
    ap (λ b. if (not b && not (has_husk d n)) then Some NoSuch else if not (has_context d n) then Some Stopped else first_cause (causes (context_at d n))) h
    ∙ ap (λ b. if not b then Some NoSuch else if not (has_context d n) then Some Stopped else first_cause (causes (context_at d n))) k

-- where none of them counts, the context lives
pub within-lives : (d : Device) (n : Name) (causes : Context → List Cause) → first_cause (within d n causes) ≡ None → has_context d n ≡ true
unfolding first_cause
within-lives d n causes none = by_test (has_context d n) (has_husk d n) none
  where
    by_test : (a b : Bool) → (if (not a && not b) then Some NoSuch else if not a then Some Stopped else first_cause (causes (context_at d n))) ≡ None → a ≡ true
    by_test true b h = refl
    by_test false true h = absurd (cc)
    by_test false false h = absurd (cc)

-- ---- events of a context

-- an event of a context that lives, from the answer of the context
pub done-by : {T : Type 0} (d new : Device) (e : Event) (n : Name) (causes : Context → List Cause) (tell : T → Outcome) (r : Result T ContextFault) (told : Result Outcome ContextFault)
    → told ≡ told_by tell r
    → first_cause (causes_of d e) ≡ first_cause (within d n causes) → has_context d n ≡ true
    → refusal_of r ≡ first_cause (causes (context_at d n))
    → IfOk r (λ x. done_by d e ≡ record { device = new; outcome = tell x }) → OnErr r (new ≡ d)
    → IsDone d e new told
done-by {T} d new e n causes tell r told is same there refused done err = subst (IsDone d e new) (sym is) (by_result r refused done err)
  where
    by_result : (x : Result T ContextFault) → refusal_of x ≡ first_cause (causes (context_at d n)) → IfOk x (λ y. done_by d e ≡ record { device = new; outcome = tell y }) → OnErr x (new ≡ d) → IsDone d e new (told_by tell x)
    by_result (Ok y) ref ok er = step-done d e (same ∙ (within-there d n causes there ∙ sym ref)) ∙ ok
    by_result (Err (Refused w)) ref ok er = (step-refused d e w (same ∙ (within-there d n causes there ∙ sym ref)), er)
    by_result (Err OutOfMemory) ref ok er = (er, same ∙ (within-there d n causes there ∙ sym ref))

-- .. that takes no memory
pub done-plainly : {T : Type 0} (d new : Device) (e : Event) (n : Name) (causes : Context → List Cause) (tell : T → Outcome) (r : Result T Refusal) (told : Result Outcome ContextFault)
    → told ≡ told_plainly tell r
    → first_cause (causes_of d e) ≡ first_cause (within d n causes) → has_context d n ≡ true
    → result_err r ≡ first_cause (causes (context_at d n))
    → IfOk r (λ x. done_by d e ≡ record { device = new; outcome = tell x }) → OnErr r (new ≡ d)
    → IsDone d e new told
done-plainly {T} d new e n causes tell r told is same there refused done err = subst (IsDone d e new) (sym is) (by_result r refused done err)
  where
    by_result : (x : Result T Refusal) → result_err x ≡ first_cause (causes (context_at d n)) → IfOk x (λ y. done_by d e ≡ record { device = new; outcome = tell y }) → OnErr x (new ≡ d) → IsDone d e new (told_plainly tell x)
    by_result (Ok y) ref ok er = step-done d e (same ∙ (within-there d n causes there ∙ sym ref)) ∙ ok
    by_result (Err w) ref ok er = (step-refused d e w (same ∙ (within-there d n causes there ∙ sym ref)), er)

-- an event of a context that does not live here
pub missing-done : (d : Device) (e : Event) (n : Name) (causes : Context → List Cause) (r : Refusal) → first_cause (causes_of d e) ≡ first_cause (within d n causes) → first_cause (within d n causes) ≡ Some r → IsDone d e d (Err (Refused r))
missing-done d e n causes r same h = (step-refused d e r (same ∙ h), refl)

-- a device that was sound is so after a lawful event
pub sound-done : (d new : Device) (e : Event) (told : Result Outcome ContextFault) → IsSoundDevice d → IsLawfulEvent e → GivesNames e → IsDone d e new told → IsSoundDevice new
sound-done d new e (Ok o) sound lawful spelled done = subst IsSoundDevice (ap (λ (s : Step). s.device) done) (stays-sound d e sound lawful spelled)
sound-done d new e (Err (Refused r)) sound lawful spelled done = subst IsSoundDevice (sym done.1) sound
sound-done d new e (Err OutOfMemory) sound lawful spelled done = subst IsSoundDevice (sym done.0) sound
