-- How the machine follows a verb: by one step where it counts as made, and by none else.
use Rattle.std.proofs.Common.{◌≡◌, ℕ, [], ◌∷◌, true, false, Bool, refl, sym, ap, ◌∙◌, subst}
use Rattle.std.specs.Prelude.{Option, Some, None, not, ◌&&◌, ◌||◌, if◌then◌else◌}
use Rattle.std.proofs.lemmas.List.{append-nil, map-id}
use Rattle.rdma_types.specs.declared.names.Name.{Name}
use Rattle.rdma_types.specs.declared.verbs.Verb.{Verb}
use Rattle.rdma_types.specs.declared.answers.Answer.{Answer}
use Rattle.rdma_types.specs.declared.answers.Answer.TheVariants as answers
use Rattle.rdma_types.specs.declared.answers.Refusal.{Refusal}
use Rattle.rdma_types.specs.declared.answers.Refusal.TheVariants as refusals
use Rattle.rdma_types.specs.Causes.{first_cause}
use Rattle.rdma_types.specs.Lists.{store}
use Rattle.protocol.specs.declared.events.Event.{Event}
use Rattle.protocol.specs.declared.events.WorldEvent.{WorldEvent}
use Rattle.protocol.specs.declared.events.WorldEvent.TheVariants as world_events
use Rattle.protocol.specs.Fabric.{sending}
use Rattle.protocol.specs.State.{World}
use Rattle.protocol.specs.Refusals as refusing
use Rattle.protocol.specs.DeviceStep as device
use Rattle.protocol.specs.DeviceStep.{device_step, done_by}
use Rattle.protocol.specs.WorldStep as step
use Rattle.protocol.specs.WorldStep.{world_step, is_live, is_carried, home, with_device, ran, runs, context_causes, context_of_event}
use Rattle.packetless_machine.specs.declared.steps.MachineStep.TheVariants as steps
use Rattle.packetless_machine.specs.Machine.{Machine, has_context}
use Rattle.packetless_machine.specs.Verbs.{refusal_of, may_answer, answered, after_answer, may_give, granted_answer, done}
use Rattle.law_simulation.specs.Kept.{kept_of, kept_verb, verb_of, verb_in, is_unmade, is_unmade_by}
use Rattle.law_simulation.specs.Carries.{Allows, CarriesAt}
use Rattle.law_simulation.specs.Stands.{Stands, IsPlaced}
use Rattle.law_simulation.specs.Law.{Reaches, Follows}
use Rattle.law_simulation.proofs.relation.Tables.{map-store_found}
use Rattle.law_simulation.proofs.relation.Worlds.{ids_once, home_found, holds_it, is_there}
use Rattle.law_simulation.proofs.relation.Refusing.{is_known, Matches}

-- a verb that is made and not refused
pub done_reached : (w : World) (m : Machine) (e : WorldEvent) (v : Verb) (given : ℕ) (w' : World) (a : Answer) → verb_of w e ≡ Some v → is_unmade a ≡ false → refusal_of m v ≡ None → may_give m v given ≡ true → granted_answer m v given ≡ a → Allows w m e a [] → Stands w' (done m v given) → Reaches w m e w' a
unfolding kept_verb
done_reached w m e v given w' a is_verb made none may answer allows stands = record {
  steps = steps.Verb v given ∷ [];
  is_run = (ap (λ x. may_answer x m v given) none ∙ may, tt);
  heard = rw (is_verb, made, ap (λ x. answered x m v given) none, answer) refl;
  allowed = allows;
  stands = rw (ap (λ x. after_answer x m v given) none) stands;
}

-- a verb that is made and refused
pub refused_reached : (w : World) (m : Machine) (e : WorldEvent) (v : Verb) (w' : World) (r : Refusal) → verb_of w e ≡ Some v → is_unmade_by r ≡ false → refusal_of m v ≡ Some r → Allows w m e (answers.Refused r) [] → Stands w' m → Reaches w m e w' (answers.Refused r)
unfolding kept_verb is_unmade
refused_reached w m e v w' r is_verb made refused allows stands = record {
  steps = steps.Verb v 0 ∷ [];
  is_run = (ap (λ x. may_answer x m v 0) refused, tt);
  heard = rw (is_verb, made, ap (λ x. answered x m v 0) refused) refl;
  allowed = allows;
  stands = rw (ap (λ x. after_answer x m v 0) refused) stands;
}

-- an event that no application hears of
pub unheard_reached : (w : World) (m : Machine) (e : WorldEvent) (w' : World) (a : Answer) → kept_of w e a ≡ [] → Allows w m e a [] → Stands w' m → Reaches w m e w' a
unheard_reached w m e w' a unheard allows stands = record { steps = []; is_run = tt; heard = sym unheard; allowed = allows; stands = stands }

-- a verb that counts as not made
pub unmade_reached : (w : World) (m : Machine) (e : WorldEvent) (v : Verb) (w' : World) (r : Refusal) → verb_of w e ≡ Some v → is_unmade_by r ≡ true → Allows w m e (answers.Refused r) [] → Stands w' m → Reaches w m e w' (answers.Refused r)
unfolding kept_verb is_unmade
unmade_reached w m e v w' r is_verb unmade allows stands = unheard_reached w m e w' (answers.Refused r) (rw (is_verb, unmade) refl) allows stands

-- by the refusal on the protocol's side: where the machine knows it, it refuses the same
pub by_refusal_reached : (w : World) (m : Machine) (e : WorldEvent) (v : Verb) (r : Refusal) → verb_of w e ≡ Some v → Allows w m e (answers.Refused r) [] → Matches (Some r) (refusal_of m v) → Stands w m → Reaches w m e w (answers.Refused r)
unfolding is_known
by_refusal_reached w m e v r is_verb allows matches s = by_test (is_unmade_by r) refl
  where
    by_test : (b : Bool) → is_unmade_by r ≡ b → Reaches w m e w (answers.Refused r)
    by_test true h = unmade_reached w m e v w r is_verb h allows s
    by_test false h = refused_reached w m e v w r is_verb h (sym (matches (ap not h))) allows s

-- ---- the device where a context lives steps

-- a step that leaves its device as it was, and sends nothing, leaves the world as it was
pub ran_same : (w : World) (m : Machine) (c : Name) (a : Answer) → IsPlaced w m → is_live w c ≡ true → (ran w (device.answers (home w c) a)).world ≡ w
unfolding ran with_device sending
ran_same w m c a placed live =
    let devices : store (λ d. d.id) (home w c).id (home w c) w.devices ≡ w.devices =
    sym (map-id (store (λ d. d.id) (home w c).id (home w c) w.devices))
    ∙ (map-store_found (λ d. d) (λ d. d.id) (holds_it c) (home w c) (home w c) w.devices (ids_once w m placed) (home_found w c live) refl ∙ map-id w.devices) in
    rw (append-nil w.sent, devices) refl

-- the machine does a verb as the home of its context does
pub record IsDone (w : World) (m : Machine) (e : Event) (v : Verb) : Type 0 where
  pub given : ℕ
  pub may : may_give m v given ≡ true
  pub answer : granted_answer m v given ≡ (ran w (done_by (home w (context_of_event e)) e)).answer
  pub made : is_unmade (ran w (done_by (home w (context_of_event e)) e)).answer ≡ false
  pub stands : Stands (ran w (done_by (home w (context_of_event e)) e)).world (done m v given)

-- an event of a context that is a verb
pub record IsVerb (w : World) (m : Machine) (e : Event) (v : Verb) : Type 0 where
  pub verb : verb_in e ≡ Some v
  pub allows : (a : Answer) → CarriesAt e a []
  -- where the context was never made, the machine refuses it first
  pub nowhere : has_context m (context_of_event e) ≡ false → refusal_of m v ≡ Some refusals.NoSuch
  -- where it lives, the refusals match, and what is not refused is done
  pub matches : is_live w (context_of_event e) ≡ true → has_context m (context_of_event e) ≡ true → Matches (refusing.refusal_of (home w (context_of_event e)) e) (refusal_of m v)
  pub does : is_live w (context_of_event e) ≡ true → has_context m (context_of_event e) ≡ true → refusing.refusal_of (home w (context_of_event e)) e ≡ None → refusal_of m v ≡ None → IsDone w m e v

verb_of_at : (w : World) (e : Event) (v : Verb) → verb_in e ≡ Some v → verb_of w (world_events.At e) ≡ Some v
unfolding verb_of
verb_of_at w e v h = h

known_none : is_known None ≡ true
unfolding is_known
known_none = refl

-- a refused step leaves the world as it was
refuses : (w : World) (m : Machine) (e : Event) (r : Refusal) → IsPlaced w m → is_live w (context_of_event e) ≡ true → Reaches w m (world_events.At e) w (answers.Refused r) → Reaches w m (world_events.At e) (ran w (device.answers (home w (context_of_event e)) (answers.Refused r))).world (ran w (device.answers (home w (context_of_event e)) (answers.Refused r))).answer
unfolding ran step.numbered
refuses w m e r placed live reached = subst (λ x. Reaches w m (world_events.At e) x (answers.Refused r)) (sym (ran_same w m (context_of_event e) (answers.Refused r) placed live)) reached

by_device : (w : World) (m : Machine) (e : Event) (v : Verb) (r : Option Refusal) → Stands w m → IsVerb w m e v → is_live w (context_of_event e) ≡ true → has_context m (context_of_event e) ≡ true → refusing.refusal_of (home w (context_of_event e)) e ≡ r →
    Reaches w m (world_events.At e) (ran w (device.by_refusal (home w (context_of_event e)) e r)).world (ran w (device.by_refusal (home w (context_of_event e)) e r)).answer
by_device w m e v None s iv live there h =
    let none : refusal_of m v ≡ None = sym (iv.matches live there (ap is_known h ∙ known_none)) ∙ h in
    let d : IsDone w m e v = iv.does live there h none in
    done_reached w m (world_events.At e) v d.given _ _ (verb_of_at w e v iv.verb) d.made none d.may d.answer (iv.allows _) d.stands
by_device w m e v (Some r) s iv live there h = refuses w m e r s.placed live (by_refusal_reached w m (world_events.At e) v r (verb_of_at w e v iv.verb) (iv.allows _) (λ known. sym h ∙ iv.matches live there (ap is_known h ∙ known)) s)

at_live : (w : World) (m : Machine) (e : Event) (v : Verb) → Stands w m → IsVerb w m e v → is_live w (context_of_event e) ≡ true → has_context m (context_of_event e) ≡ true →
    Reaches w m (world_events.At e) (runs w (home w (context_of_event e)) e).world (runs w (home w (context_of_event e)) e).answer
unfolding device_step
at_live w m e v s iv live there = by_device w m e v _ s iv live there refl

-- ---- by where the context is

pub stepped_at : (w : World) (e : Event) (r : Option Refusal) → first_cause (context_causes w (context_of_event e) []) ≡ r → world_step w (world_events.At e) ≡ step.by_refusal w r (runs w (home w (context_of_event e)) e)
unfolding world_step step.steps_at
stepped_at w e r h = ap (λ x. step.by_refusal w x (runs w (home w (context_of_event e)) e)) h

pub causes_are : (w : World) (c : Name) → first_cause (context_causes w c []) ≡ (if is_live w c then None else if is_carried w c then Some refusals.Stopped else Some refusals.NoSuch)
unfolding first_cause
causes_are w c = by_tests (is_live w c) (is_carried w c)
  where
    by_tests : (l k : Bool) → (if not l && not k then Some refusals.NoSuch else if not l then Some refusals.Stopped else None) ≡ (if l then None else if k then Some refusals.Stopped else Some refusals.NoSuch)
    by_tests true k = refl
    by_tests false true = refl
    by_tests false false = refl

stopped : is_unmade_by refusals.Stopped ≡ true
unfolding is_unmade_by
stopped = refl

missing : is_unmade_by refusals.NoSuch ≡ false
unfolding is_unmade_by
missing = refl

at_place : (w : World) (m : Machine) (e : Event) (v : Verb) (l k : Bool) → Stands w m → IsVerb w m e v → is_live w (context_of_event e) ≡ l → is_carried w (context_of_event e) ≡ k → has_context m (context_of_event e) ≡ (l || k) → Follows w m (world_events.At e)
at_place w m e v true k s iv live carried there =
    rw (stepped_at w e None (causes_are w (context_of_event e) ∙ ap (λ b. if b then None else if is_carried w (context_of_event e) then Some refusals.Stopped else Some refusals.NoSuch) live)) (at_live w m e v s iv live there)
at_place w m e v false true s iv live carried there =
    rw (stepped_at w e (Some refusals.Stopped) (causes_are w (context_of_event e) ∙ rw (live, carried) refl)) (unmade_reached w m (world_events.At e) v w refusals.Stopped (verb_of_at w e v iv.verb) stopped (iv.allows _) s)
at_place w m e v false false s iv live carried there =
    rw (stepped_at w e (Some refusals.NoSuch) (causes_are w (context_of_event e) ∙ rw (live, carried) refl)) (refused_reached w m (world_events.At e) v w refusals.NoSuch (verb_of_at w e v iv.verb) missing (iv.nowhere there) (iv.allows _) s)

-- the machine follows a verb of a context
pub verb_follows : (w : World) (m : Machine) (e : Event) (v : Verb) → Stands w m → IsVerb w m e v → Follows w m (world_events.At e)
verb_follows w m e v s iv = at_place w m e v _ _ s iv refl refl (is_there w m (context_of_event e) s.placed)
