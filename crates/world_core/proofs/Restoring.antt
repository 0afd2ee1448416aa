-- An image that is put back.
use Rattle.std.proofs.Common.{◌≡◌, ℕ, ◌==◌, ◌||◌, [], ◌∷◌, true, false, Option, Some, None, refl, sym, ap, ◌∙◌, subst, bytes_eq, slice_get, is_some, if◌then◌else◌, ◌⊎◌, inl, inr}
use Rattle.std.specs.Prelude.{not, IfOk, OnErr, Result, Ok, Err}
use Rattle.std.specs.declared.alloc.AllocError.{AllocError}
use Rattle.std.specs.List.{position, remove}
use Rattle.rdma_types.specs.declared.answers.Answer.{Answer}
use Rattle.rdma_types.specs.declared.answers.Answer.TheVariants as answer
use Rattle.rdma_types.specs.declared.answers.Refusal.{Refusal}
use Rattle.rdma_types.specs.declared.answers.Refusal.TheVariants as refusal
use Rattle.rdma_types.specs.declared.names.Name.{Name}
use Rattle.rdma_types.specs.Causes.{cause, first_cause}
use Rattle.rdma_types.specs.Lists.{at, store, has_word, without}
use Rattle.protocol.specs.declared.events.Event.TheVariants as event
use Rattle.protocol.specs.declared.events.WorldEvent.TheVariants as world_event
use Rattle.protocol.specs.declared.images.ContextImage.{ContextImage}
use Rattle.protocol.specs.DeviceStep as device
use Rattle.protocol.specs.DeviceStep.{device_step}
use Rattle.protocol.specs.Fabric.{forgetting, sending}
use Rattle.protocol.specs.Refusals.{refusal_of}
use Rattle.protocol.specs.State.{Device, World, device_at}
use Rattle.protocol.specs.WorldStep.{Step, answers, carried_image, has_device, is_done, ran, restored_by, restores, restores_image, runs, with_device, with_image}
use Rattle.world_core.specs.Causes.{image_refusal, or_later, restore_causes, told_due, world_refusal}
use Rattle.world_core.specs.Kept.{Makes}
use Rattle.world_core.specs.Places.{HaveOwnIds}
use Rattle.world_core.specs.Sites.{put_back}
use Rattle.world_core.proofs.Places.{IsFirstPlace, none_passes, spot, without-place, is_some-position}
use Rattle.world_core.proofs.Causes.{holds_not, no_cause, not_true, or_neither}
use Rattle.law_settling.proofs.steps.Bare.{bare}
use Rattle.world_core.proofs.Stepping.{not_done, refused_runs}
use Rattle.world_core.proofs.Worlds.{Stays, device_stays, passes}

-- ---- an image is put back

pub put_makes : (mid new : World) (spot : ℕ) (s : Step) (a : Answer) → Makes s a mid → ((is_done a ≡ true) × (new ≡ record mid { carried = remove mid.carried spot })) ⊎ ((is_done a ≡ false) × (new ≡ mid)) → Makes (put_back s spot) a new
put_makes mid new spot s a made (inl done) =
    subst (λ b. Makes (if b then answers (record s.world { carried = remove s.world.carried spot }) s.answer else s) a new) (sym done.0 ∙ ap (λ x. is_done x) made.answered)
    (record { answered = made.answered; left = done.1 ∙ ap (λ (x : World). record x { carried = remove x.carried spot }) made.left })
put_makes mid new spot s a made (inr not_done) =
    subst (λ b. Makes (if b then answers (record s.world { carried = remove s.world.carried spot }) s.answer else s) a new) (sym not_done.0 ∙ ap (λ x. is_done x) made.answered)
    (record { answered = made.answered; left = not_done.1 ∙ made.left })

-- a restore carries nothing off
restored_carried : (w : World) (d : Device) (image : ContextImage) → (runs w d (event.Restore image)).world.carried ≡ w.carried
unfolding ran with_device
restored_carried w d image = by (device_step d (event.Restore image)) (bare d (event.Restore image) tt)
  where
    by : (s : device.Step) → s.outcome.image ≡ None → (ran w s).world.carried ≡ w.carried
    by s none = ap (λ o. (with_image o (record w { devices = store (λ x. x.id) s.device.id s.device w.devices; sent = sending w.sent s.device.address s.outcome.sent })).carried) none

-- the image that was restored is the first one with its name
put_back_restores : (w : World) (n : Name) (spot : ℕ) (s : Step) → s.world.carried ≡ w.carried → position (λ c. bytes_eq c.name n) w.carried ≡ Some spot → put_back s spot ≡ restored_by w n s
put_back_restores w n spot s same there =
    ap (λ xs. if is_done s.answer then answers (record s.world { carried = xs }) s.answer else s)
    (ap (λ xs. remove xs spot) same ∙ (sym (without-place (λ c. c.name) n w.carried spot there) ∙ ap (λ xs. without (λ c. c.name) n xs) (sym same)))

-- the carried image of a context, at its spot
record IsCarriedAt (w : World) (n : Name) (spot : ℕ) : Type 0 where
  image : ContextImage
  there : slice_get w.carried spot ≡ Some image
  first : carried_image w n ≡ Some image

carried_at : (w : World) (n : Name) (spot : ℕ) → position (λ c. bytes_eq c.name n) w.carried ≡ Some spot → IsCarriedAt w n spot
unfolding carried_image
carried_at w n k there =
    let s : IsFirstPlace (λ (c : ContextImage). bytes_eq c.name n) w.carried k = spot (λ c. bytes_eq c.name n) w.carried k there in
    record { image = s.thing; there = s.here; first = s.first }

pub not_carried : (w : World) (n : Name) → position (λ c. bytes_eq c.name n) w.carried ≡ None → carried_image w n ≡ None
unfolding carried_image
not_carried w n h = none_passes (λ (c : ContextImage). bytes_eq c.name n) w.carried (sym (is_some-position (λ (c : ContextImage). bytes_eq c.name n) w.carried) ∙ ap (λ o. is_some o) h)

-- the rule of a restore, from what is done at the place and the spot
pub restores_there : (r : Result Answer AllocError) (w new : World) (n : Name) (k place spot : ℕ) →
    IfOk r (λ a. (d : Device) → (x : ContextImage) → slice_get w.devices place ≡ Some d → slice_get w.carried spot ≡ Some x → Makes (put_back (runs w d (event.Restore x)) spot) a new) →
    position (λ d. d.id == k) w.devices ≡ Some place → has_word n w.stopped ≡ true → position (λ c. bytes_eq c.name n) w.carried ≡ Some spot → IfOk r (λ a. Makes (restores w n k) a new)
unfolding restores
restores_there (Err x) w new n k place spot ok at stopped there = tt
restores_there (Ok a) w new n k place spot ok at stopped there =
    let stays : Stays w k place = device_stays w k place at in
    let c : IsCarriedAt w n spot = carried_at w n spot there in
    let s : Step = runs w (device_at w k) (event.Restore c.image) in
    let none : first_cause (cause refusal.NoSuch (not (has_device w k) || not (has_word n w.stopped)) ∷ []) ≡ None =
    holds_not refusal.NoSuch (not (has_device w k) || not (has_word n w.stopped)) [] (or_neither _ _ (not_true _ stays.there) (not_true _ stopped)) ∙ no_cause in
    passes w _ (restores_image w n k (carried_image w n)) a new none
    (subst (λ o. Makes (restores_image w n k o) a new) (sym c.first)
    (subst (λ x. Makes x a new) (put_back_restores w n spot s (restored_carried w (device_at w k) c.image) there)
    (ok (device_at w k) c.image stays.here c.there)))

-- ---- a device that refuses an image

pub due_puts_back : (due : Option Refusal) (w new : World) (place spot : ℕ) → HaveOwnIds w.devices → forgetting w.sent ≡ w.sent → new ≡ w →
    ((d : Device) (x : ContextImage) → slice_get w.devices place ≡ Some d → slice_get w.carried spot ≡ Some x → due ≡ refusal_of d (event.Restore x)) →
    IfOk (told_due due) (λ a. (d : Device) → (x : ContextImage) → slice_get w.devices place ≡ Some d → slice_get w.carried spot ≡ Some x → Makes (put_back (runs w d (event.Restore x)) spot) a new)
due_puts_back None w new place spot ids kept same is = tt
due_puts_back (Some r) w new place spot ids kept same is = λ d x here there.
    let made : Makes (runs w d (event.Restore x)) (answer.Refused r) w = refused_runs w place d (event.Restore x) r ids kept here (sym (is d x here there)) in
    subst (λ z. Makes (put_back (runs w d (event.Restore x)) spot) (answer.Refused r) z) (sym same) (put_makes w w spot (runs w d (event.Restore x)) (answer.Refused r) made (inr (refl, refl)))

pub due_not_put_back : (due : Option Refusal) (w : World) (place spot : ℕ) → ((d : Device) (x : ContextImage) → slice_get w.devices place ≡ Some d → slice_get w.carried spot ≡ Some x → due ≡ refusal_of d (event.Restore x)) →
    OnErr (told_due due) ((d : Device) → (x : ContextImage) → slice_get w.devices place ≡ Some d → slice_get w.carried spot ≡ Some x → refusal_of d (event.Restore x) ≡ None)
due_not_put_back None w place spot is = λ d x here there. sym (is d x here there)
due_not_put_back (Some r) w place spot is = tt

-- where there is no memory, no refusal of a restore is due
pub none_due_there : (r : Result Answer AllocError) (w : World) (n : Name) (k place spot : ℕ) →
    OnErr r ((d : Device) → (x : ContextImage) → slice_get w.devices place ≡ Some d → slice_get w.carried spot ≡ Some x → refusal_of d (event.Restore x) ≡ None) →
    position (λ d. d.id == k) w.devices ≡ Some place → has_word n w.stopped ≡ true → position (λ c. bytes_eq c.name n) w.carried ≡ Some spot → OnErr r (world_refusal w (world_event.Restore n k) ≡ None)
none_due_there (Ok a) w n k place spot due at stopped there = tt
none_due_there (Err x) w n k place spot due at stopped there =
    let stays : Stays w k place = device_stays w k place at in
    let c : IsCarriedAt w n spot = carried_at w n spot there in
    let none : first_cause (restore_causes w n k) ≡ None =
    holds_not refusal.NoSuch (not (has_device w k) || not (has_word n w.stopped)) [] (or_neither _ _ (not_true _ stays.there) (not_true _ stopped)) ∙ no_cause in
    ap (λ o. or_later o (image_refusal w k (carried_image w n))) none
    ∙ (ap (λ o. image_refusal w k o) c.first ∙ due (device_at w k) c.image stays.here c.there)
