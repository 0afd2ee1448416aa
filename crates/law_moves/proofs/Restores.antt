-- What a restore of a carried context leaves, and a release of a husk.
use Rattle.std.proofs.Common.{arith, ◌≡◌, ◌≢◌, ℕ, [], ◌∷◌, true, false, Bool, refl, sym, ap, ◌∙◌, subst, ◌⊎◌, inl, inr}
use Rattle.std.specs.Prelude.{bytes_eq, ◌||◌, not, if◌then◌else◌, Option, Some, None}
use Rattle.rdma_types.specs.declared.answers.Answer.TheVariants as answer
use Rattle.rdma_types.specs.declared.answers.Refusal.{Refusal}
use Rattle.rdma_types.specs.declared.answers.Refusal.TheVariants as refusal
use Rattle.rdma_types.specs.declared.names.Name.{Name}
use Rattle.rdma_types.specs.Causes.{cause, first_cause}
use Rattle.rdma_types.specs.Lists.{at, has, has_word, named, store, without}
use Rattle.protocol.specs.declared.events.Event.TheVariants as event
use Rattle.protocol.specs.declared.events.WorldEvent.TheVariants as world_event
use Rattle.protocol.specs.declared.images.ContextImage.{ContextImage}
use Rattle.protocol.specs.DeviceStep as device
use Rattle.protocol.specs.DeviceStep.{restored}
use Rattle.protocol.specs.Images.{context_of, moved}
use Rattle.protocol.specs.Refusals.{has_context, refusal_of}
use Rattle.protocol.specs.State.{Context, Device, World, context_at, device_at, no_context, no_device}
use Rattle.protocol.specs.WorldStep as step
use Rattle.protocol.specs.WorldStep.{carried_image, has_device, is_done, live_context, ran, runs, with_device, world_step}
use Rattle.packetless_machine.specs.Machine.{Machine}
use Rattle.law_simulation.specs.Stands.{Stands}
use Rattle.law_simulation.proofs.relation.Refusing.{first_no}
use Rattle.law_simulation.proofs.relation.Tables.{at-store_part, at-store_same, has_name-push, named-append_lacks, number-at, same_name}
use Rattle.law_simulation.proofs.stop_restore.Devices.{ran_stays}
use Rattle.law_simulation.proofs.stop_restore.Movers.{image_name}
use Rattle.evac_rules.specs.Evacuation.{takes}
use Rattle.law_moves.proofs.Homes.{IsHome, home_is}
use Rattle.law_moves.proofs.Lists.{at-store_other, has-store}

-- ---- a restore

-- the device took the context
pub record IsTaken (w w' : World) (k : ℕ) (n : Name) (i : ContextImage) : Type 0 where
  pub free : has_context (device_at w k) n ≡ false
  pub device : device_at w' k ≡ restored (device_at w k) (context_of i)
  pub others : (j : ℕ) → j ≢ k → device_at w' j ≡ device_at w j
  pub made : (j : ℕ) → has_device w' j ≡ has_device w j
  pub carried : w'.carried ≡ without (λ c. c.name) n w.carried

-- it did, or the restore was refused and changed nothing
abbrev pub IsTried : World → World → ℕ → Name → ContextImage → Bool → Type 0
IsTried w w' k n i b = ((b ≡ false) × (w' ≡ w)) ⊎ ((b ≡ true) × IsTaken w w' k n i)

or_first : (a b c : Bool) → ((a || b) || c) ≡ false → a ≡ false
or_first true b c h = absurd (cc)
or_first false b c h = refl

-- the image of a stopped context is carried
pub record IsCarried (w : World) (n : Name) (i : ContextImage) : Type 0 where
  pub image : carried_image w n ≡ Some i
  pub name : i.name ≡ n
  pub stopped : has_word n w.stopped ≡ true

module _ (w : World) (k : ℕ) (n : Name) (i : ContextImage) (c : IsCarried w n i) where
  abbrev d : Device
  d = device_at w k

  abbrev x : Context
  x = context_of i

  name_is : x.name ≡ n
  name_is = image_name i ∙ c.name

  module _ (made : has_device w k ≡ true) where
    id_is : d.id ≡ k
    id_is = number-at (λ e. e.id) no_device k w.devices made

    abbrev w' : World
    w' = step.without_image (ran w (device.answers (restored d x) answer.Done)).world n

    devices_are : w'.devices ≡ store (λ e. e.id) k (restored d x) w.devices
    unfolding ran with_device
    devices_are = ap (λ j. store (λ e. e.id) j (restored d x) w.devices) id_is

    carried_are : w'.carried ≡ without (λ z. z.name) n w.carried
    unfolding ran with_device
    carried_are = refl

    lacks : refusal_of d (event.Restore i) ≡ None → has_context d n ≡ false
    unfolding refusal_of
    lacks none = ap (has_context d) (sym name_is) ∙ or_first _ _ _ (first_no refusal.NumberTaken _ _ none)

    taken : refusal_of d (event.Restore i) ≡ None → IsTaken w w' k n i
    taken none = record {
      free = lacks none;
      device = ap (at (λ e. e.id) no_device k) devices_are ∙ at-store_same (λ e. e.id) no_device k (restored d x) w.devices id_is;
      others = λ j ne. ap (at (λ e. e.id) no_device j) devices_are ∙ at-store_other (λ e. e.id) no_device k j (restored d x) w.devices id_is ne;
      made = λ j. ap (has (λ e. e.id) j) devices_are ∙ has-store (λ e. e.id) k j (restored d x) w.devices id_is made;
      carried = carried_are;
    }

    by_device : (r : Option Refusal) → refusal_of d (event.Restore i) ≡ r →
        IsTried w (step.restored_by w n (ran w (device.by_refusal d (event.Restore i) r))).world k n i (is_done (step.restored_by w n (ran w (device.by_refusal d (event.Restore i) r))).answer)
    unfolding ran step.numbered device.restores
    by_device (Some r) is = inl (refl, ran_stays w k (answer.Refused r) made)
    by_device None is = inr (refl, taken is)

    by_image : IsTried w (step.restored_by w n (runs w d (event.Restore i))).world k n i (is_done (step.restored_by w n (runs w d (event.Restore i))).answer)
    unfolding device.device_step
    by_image = by_device (refusal_of d (event.Restore i)) refl

  by_made : (b : Bool) → has_device w k ≡ b →
      IsTried w (step.by_refusal w (first_cause (cause refusal.NoSuch (not b || not (has_word n w.stopped)) ∷ [])) (step.restores_image w n k (carried_image w n))).world k n i
      (is_done (step.by_refusal w (first_cause (cause refusal.NoSuch (not b || not (has_word n w.stopped)) ∷ [])) (step.restores_image w n k (carried_image w n))).answer)
  unfolding first_cause
  by_made false is = inl (refl, refl)
  by_made true is =
      subst (λ b. IsTried w (step.by_refusal w (if not b then Some refusal.NoSuch else None) (step.restores_image w n k (carried_image w n))).world k n i (is_done (step.by_refusal w (if not b then Some refusal.NoSuch else None) (step.restores_image w n k (carried_image w n))).answer)) (sym c.stopped)
      (subst (λ o. IsTried w (step.restores_image w n k o).world k n i (is_done (step.restores_image w n k o).answer)) (sym c.image) (by_image is))

  pub restore_ends : IsTried w (world_step w (world_event.Restore n k)).world k n i (takes w n k)
  unfolding world_step step.restores
  restore_ends = by_made (has_device w k) refl

-- ---- the context that was taken

-- it lives on the device as the moved image
pub record IsHere (w : World) (k : ℕ) (n : Name) (i : ContextImage) : Type 0 where
  pub there : has_context (device_at w k) n ≡ true
  pub context : live_context w n ≡ moved (context_of i)

moved_name : (i : ContextImage) (n : Name) → i.name ≡ n → (moved (context_of i)).name ≡ n
unfolding moved
moved_name i n is = image_name i ∙ is

first_named : (n : Name) (c : Context) → c.name ≡ n → named (λ x. x.name) no_context n (c ∷ []) ≡ c
unfolding named
first_named n c is = grind (arith, same_name n, is)

pub taken_here : (w w' : World) (m' : Machine) (k : ℕ) (n : Name) (i : ContextImage) → i.name ≡ n → Stands w' m' → IsTaken w w' k n i → IsHere w' k n i
unfolding live_context
taken_here w w' m' k n i name s t =
    let d : Device = device_at w k in
    let c : Context = moved (context_of i) in
    let is : c.name ≡ n = moved_name i n name in
    let there : has_context (device_at w' k) n ≡ true = ap (λ (e : Device). has_context e n) t.device ∙ (has_name-push (λ z. z.name) n d.contexts c ∙ (ap (λ j. has_context d n || bytes_eq j n) is ∙ grind (arith, same_name n))) in
    let h : IsHome w' k n = home_is w' m' k n s.placed there in
    record {
      there = there;
      context =
          ap (λ e. context_at e n) h.home
          ∙ (ap (λ (e : Device). context_at e n) t.device
          ∙ (named-append_lacks (λ z. z.name) no_context n d.contexts (c ∷ []) t.free ∙ first_named n c is));
    }

-- ---- a release

-- contexts, carried images and what was stopped are as they were
pub record IsReleased (w w' : World) : Type 0 where
  pub contexts : (j : ℕ) → (device_at w' j).contexts ≡ (device_at w j).contexts
  pub carried : w'.carried ≡ w.carried
  pub stopped : w'.stopped ≡ w.stopped

module _ (w : World) (k : ℕ) (n : Name) where
  abbrev e : Device
  e = device_at w k

  released_itself : IsReleased w w
  released_itself = record { contexts = λ j. refl; carried = refl; stopped = refl }

  abbrev e' : Device
  e' = record e { husks = without (λ h. h.name) n e.husks }

  husk_gone : has_device w k ≡ true → IsReleased w (ran w (device.answers e' answer.Done)).world
  unfolding ran with_device
  husk_gone made =
      let id : e.id ≡ k = number-at (λ z. z.id) no_device k w.devices made in
      record {
        contexts = λ j. ap (λ i. (at (λ z. z.id) no_device j (store (λ z. z.id) i e' w.devices)).contexts) id ∙ at-store_part (λ z. z.contexts) (λ z. z.id) no_device k j e' w.devices id refl;
        carried = refl;
        stopped = refl;
      }

  released_by : has_device w k ≡ true → (r : Option Refusal) → IsReleased w (ran w (device.by_refusal e (event.Release n) r)).world
  unfolding device.releases
  released_by made (Some r) = subst (IsReleased w) (sym (ran_stays w k (answer.Refused r) made)) released_itself
  released_by made None = husk_gone made

  released_where : (b : Bool) → has_device w k ≡ b → IsReleased w (step.by_refusal w (first_cause (cause refusal.NoSuch (not b) ∷ [])) (runs w e (event.Release n))).world
  unfolding first_cause device.device_step
  released_where false is = released_itself
  released_where true is = released_by is (refusal_of e (event.Release n))

  pub release_ends : IsReleased w (world_step w (world_event.Release n k)).world
  unfolding world_step step.releases
  release_ends = released_where (has_device w k) refl
