-- What holds of whole worlds, and where things live in them.
use Rattle.std.proofs.Common.{◌≡◌, ℕ, ◌<◌, ◌==◌, List, length, true, false, Option, Some, None, refl, sym, ap, ◌∙◌, subst, bytes_eq, slice_get, is_some, get_or}
use Rattle.std.specs.Prelude.{IfOk, Result, Ok, Err}
use Rattle.std.specs.declared.alloc.AllocError.{AllocError}
use Rattle.std.specs.List.{position}
use Rattle.std.proofs.lemmas.Option.{slice_get_read, slice_get_within}
use Rattle.rdma_types.specs.declared.answers.Answer.{Answer}
use Rattle.rdma_types.specs.declared.answers.Answer.TheVariants as answer
use Rattle.rdma_types.specs.declared.answers.Refusal.{Refusal}
use Rattle.rdma_types.specs.declared.names.Name.{Name}
use Rattle.rdma_types.specs.Lists.{first_that}
use Rattle.protocol.specs.declared.events.Event.{Event}
use Rattle.protocol.specs.declared.images.ContextImage.{ContextImage}
use Rattle.protocol.specs.Refusals.{has_context}
use Rattle.protocol.specs.State.{Device, World, no_device, device_at}
use Rattle.protocol.specs.WorldStep.{Step, answers, by_refusal, has_device, home, is_carried, is_live, or_none, runs}
use Rattle.protocol.specs.Fabric.{forgetting}
use Rattle.law_kept_datagrams.specs.Alike.{AreAlike, with_kept_datagrams}
use Rattle.world_core.specs.Kept.{Makes}
use Rattle.world_core.proofs.Places.{IsFirstPlace, spot, at-first, has-some, has_name-some, is_some-position}

-- ---- a world that stays

pub kept_is : (w : World) → forgetting w.sent ≡ w.sent → w ≡ with_kept_datagrams w
kept_is w h = ap (λ s. record w { sent = s }) (sym h)

-- alike worlds are the same, where those datagrams are blank that are not kept
pub alike_kept_datagrams : (a b : World) → AreAlike a b → with_kept_datagrams a ≡ with_kept_datagrams b
alike_kept_datagrams a b like = cc (like.devices, like.sent, like.carried, like.stopped)

pub stays : (w : World) (a : Answer) → forgetting w.sent ≡ w.sent → Makes (answers w a) a w
stays w a h = record { answered = refl; left = kept_is w h }

pub refused : (w : World) (o : Option Refusal) (r : Refusal) (s : Step) → forgetting w.sent ≡ w.sent → o ≡ Some r → Makes (by_refusal w o s) (answer.Refused r) w
refused w o r s kept h = subst (λ x. Makes (by_refusal w x s) (answer.Refused r) w) (sym h) (stays w (answer.Refused r) kept)

pub passes : (w : World) (o : Option Refusal) (s : Step) (a : Answer) (new : World) → o ≡ None → Makes s a new → Makes (by_refusal w o s) a new
passes w o s a new h made = subst (λ x. Makes (by_refusal w x s) a new) (sym h) made

-- a device's step, where the device is the one that the rule asks for
pub run_makes : (r : Result Answer AllocError) (w new : World) (place : ℕ) (d : Device) (e : Event) (s : Step) →
    IfOk r (λ a. (x : Device) → slice_get w.devices place ≡ Some x → Makes (runs w x e) a new) → slice_get w.devices place ≡ Some d →
    ((a : Answer) → Makes (runs w d e) a new → Makes s a new) → IfOk r (λ a. Makes s a new)
run_makes (Ok a) w new place d e s ok here rule = rule a (ok d here)
run_makes (Err x) w new place d e s ok here rule = tt

-- ---- where a context lives

-- the device at the place where a context lives
pub record Lives (w : World) (n : Name) (place : ℕ) : Type 0 where
  pub here : slice_get w.devices place ≡ Some (home w n)
  pub within : place < length w.devices
  pub has : has_context (home w n) n ≡ true
  pub live : is_live w n ≡ true

pub lives : (w : World) (n : Name) (place : ℕ) → position (λ d. has_context d n) w.devices ≡ Some place → Lives w n place
unfolding home
lives w n place h =
    let s : IsFirstPlace (λ (d : Device). has_context d n) w.devices place = spot (λ d. has_context d n) w.devices place h in
    let is_home : s.thing ≡ or_none (first_that (λ d. has_context d n) w.devices) = ap (λ o. or_none o) (sym s.first) in
    record {
      here = s.here ∙ ap (λ d. Some d) is_home;
      within = s.within;
      has = ap (λ (d : Device). has_context d n) (sym is_home) ∙ s.passes;
      live = sym (is_some-position (λ d. has_context d n) w.devices) ∙ ap (λ o. is_some o) h;
    }

pub lives_there : (w : World) (n : Name) → is_some (position (λ d. has_context d n) w.devices) ≡ is_live w n
lives_there w n = is_some-position (λ d. has_context d n) w.devices

pub no_life : (w : World) (n : Name) → position (λ d. has_context d n) w.devices ≡ None → is_live w n ≡ false
no_life w n h = sym (is_some-position (λ d. has_context d n) w.devices) ∙ ap (λ o. is_some o) h

pub carried_there : (w : World) (n : Name) → is_some (position (λ c. bytes_eq c.name n) w.carried) ≡ is_carried w n
carried_there w n = is_some-position (λ c. bytes_eq c.name n) w.carried ∙ sym (has_name-some (λ c. c.name) n w.carried)

-- the device with an id
pub record Stays (w : World) (id place : ℕ) : Type 0 where
  pub here : slice_get w.devices place ≡ Some (device_at w id)
  pub within : place < length w.devices
  pub there : has_device w id ≡ true

pub device_there : (w : World) (id : ℕ) → is_some (position (λ d. d.id == id) w.devices) ≡ has_device w id
device_there w id = is_some-position (λ d. d.id == id) w.devices ∙ sym (has-some (λ d. d.id) id w.devices)

pub device_stays : (w : World) (id place : ℕ) → position (λ d. d.id == id) w.devices ≡ Some place → Stays w id place
device_stays w id place h =
    let s : IsFirstPlace (λ (d : Device). d.id == id) w.devices place = spot (λ d. d.id == id) w.devices place h in
    record {
      here = s.here ∙ ap (λ d. Some d) (sym (at-first (λ d. d.id) no_device id w.devices s.thing s.first));
      within = s.within;
      there = sym (device_there w id) ∙ ap (λ o. is_some o) h;
    }

pub no_device_there : (w : World) (id : ℕ) → position (λ d. d.id == id) w.devices ≡ None → has_device w id ≡ false
no_device_there w id h = sym (device_there w id) ∙ ap (λ o. is_some o) h

-- ---- the device that was read at a place

pub read_device : (v w : World) (place : ℕ) (x d : Device) → v ≡ w → slice_get w.devices place ≡ Some d → x ≡ get_or v.devices place x → x ≡ d
read_device v w place x d seen there read =
    let there' : slice_get v.devices place ≡ Some d = ap (λ (y : World). slice_get y.devices place) seen ∙ there in
    let here : slice_get v.devices place ≡ Some x = slice_get_read v.devices (length v.devices) place x refl (slice_get_within v.devices place d there') read in
    some_is x d (sym here ∙ there')
  where
    some_is : (y z : Device) → Some y ≡ Some z → y ≡ z
    some_is y z h = cc

-- ---- the image that was read at a spot

pub read_image : (v w : World) (spot : ℕ) (is : List ContextImage) (x y : ContextImage) → v ≡ w → is ≡ v.carried → slice_get w.carried spot ≡ Some y → x ≡ get_or is spot x → x ≡ y
read_image v w spot is x y seen same there read =
    let carried : is ≡ w.carried = same ∙ ap (λ (z : World). z.carried) seen in
    let there' : slice_get is spot ≡ Some y = ap (λ zs. slice_get zs spot) carried ∙ there in
    let here : slice_get is spot ≡ Some x = slice_get_read is (length is) spot x refl (slice_get_within is spot y there') read in
    some_is x y (sym here ∙ there')
  where
    some_is : (a b : ContextImage) → Some a ≡ Some b → a ≡ b
    some_is a b h = cc
