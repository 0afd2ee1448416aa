-- How the machine follows an event of a context that no application hears of.
use Rattle.std.proofs.Common.{◌≡◌, [], true, false, Bool, refl, sym, ap, ◌∙◌, subst}
use Rattle.std.specs.Prelude.{Option, Some, None, ◌||◌, if◌then◌else◌}
use Rattle.rdma_types.specs.declared.answers.Answer.{Answer}
use Rattle.rdma_types.specs.declared.answers.Answer.TheVariants as answers
use Rattle.rdma_types.specs.declared.answers.Refusal.{Refusal}
use Rattle.rdma_types.specs.declared.answers.Refusal.TheVariants as refusals
use Rattle.rdma_types.specs.Causes.{first_cause}
use Rattle.protocol.specs.declared.events.Event.{Event}
use Rattle.protocol.specs.declared.events.WorldEvent.TheVariants as world_events
use Rattle.protocol.specs.State.{World}
use Rattle.protocol.specs.Refusals as refusing
use Rattle.protocol.specs.DeviceStep as device
use Rattle.protocol.specs.DeviceStep.{device_step, done_by}
use Rattle.protocol.specs.WorldStep as step
use Rattle.protocol.specs.WorldStep.{is_live, is_carried, home, ran, runs, context_causes, context_of_event}
use Rattle.packetless_machine.specs.Machine.{Machine, has_context}
use Rattle.law_simulation.specs.Kept.{kept_of, kept_verb, verb_of, verb_in}
use Rattle.law_simulation.specs.Carries.{CarriesAt}
use Rattle.law_simulation.specs.Stands.{Stands}
use Rattle.law_simulation.specs.Law.{Reaches, Follows}
use Rattle.law_simulation.proofs.relation.Worlds.{is_there}
use Rattle.law_simulation.proofs.relation.Verbs.{ran_same, unheard_reached, causes_are, stepped_at}

-- an event of a context that no application hears of: where it is refused nothing happens, and where it is not, what
-- its home does is reached
pub record IsUnheard (w : World) (m : Machine) (e : Event) : Type 0 where
  pub silent : verb_in e ≡ None
  pub refused : (r : Refusal) → CarriesAt e (answers.Refused r) []
  pub does : is_live w (context_of_event e) ≡ true → has_context m (context_of_event e) ≡ true → refusing.refusal_of (home w (context_of_event e)) e ≡ None →
      Reaches w m (world_events.At e) (ran w (done_by (home w (context_of_event e)) e)).world (ran w (done_by (home w (context_of_event e)) e)).answer

-- nothing of it is heard
pub nothing_heard : (w : World) (e : Event) (a : Answer) → verb_in e ≡ None → kept_of w (world_events.At e) a ≡ []
unfolding verb_of kept_verb
nothing_heard w e a silent = ap (λ v. kept_verb v a) silent

-- a step that leaves its device as it was leaves the world as it was
pub same_reached : (w : World) (m : Machine) (e : Event) (a : Answer) → Stands w m → is_live w (context_of_event e) ≡ true → verb_in e ≡ None → (ran w (device.answers (home w (context_of_event e)) a)).answer ≡ a → CarriesAt e a [] →
    Reaches w m (world_events.At e) (ran w (device.answers (home w (context_of_event e)) a)).world (ran w (device.answers (home w (context_of_event e)) a)).answer
same_reached w m e a s live silent same carries =
    subst (λ x. Reaches w m (world_events.At e) x (ran w (device.answers (home w (context_of_event e)) a)).answer) (sym (ran_same w m (context_of_event e) a s.placed live))
    (subst (Reaches w m (world_events.At e) w) (sym same)
    (unheard_reached w m (world_events.At e) w a (nothing_heard w e a silent) carries s))

by_device : (w : World) (m : Machine) (e : Event) (r : Option Refusal) → Stands w m → IsUnheard w m e → is_live w (context_of_event e) ≡ true → has_context m (context_of_event e) ≡ true → refusing.refusal_of (home w (context_of_event e)) e ≡ r →
    Reaches w m (world_events.At e) (ran w (device.by_refusal (home w (context_of_event e)) e r)).world (ran w (device.by_refusal (home w (context_of_event e)) e r)).answer
unfolding ran step.numbered
by_device w m e None s u live there h = u.does live there h
by_device w m e (Some r) s u live there h = same_reached w m e (answers.Refused r) s live u.silent refl (u.refused r)

at_live : (w : World) (m : Machine) (e : Event) → Stands w m → IsUnheard w m e → is_live w (context_of_event e) ≡ true → has_context m (context_of_event e) ≡ true →
    Reaches w m (world_events.At e) (runs w (home w (context_of_event e)) e).world (runs w (home w (context_of_event e)) e).answer
unfolding device_step
at_live w m e s u live there = by_device w m e _ s u live there refl

refused_at : (w : World) (m : Machine) (e : Event) (r : Refusal) → Stands w m → IsUnheard w m e → first_cause (context_causes w (context_of_event e) []) ≡ Some r → Follows w m (world_events.At e)
refused_at w m e r s u h = rw (stepped_at w e (Some r) h) (unheard_reached w m (world_events.At e) w (answers.Refused r) (nothing_heard w e (answers.Refused r) u.silent) (u.refused r) s)

at_place : (w : World) (m : Machine) (e : Event) (l k : Bool) → Stands w m → IsUnheard w m e → is_live w (context_of_event e) ≡ l → is_carried w (context_of_event e) ≡ k → has_context m (context_of_event e) ≡ (l || k) → Follows w m (world_events.At e)
at_place w m e true k s u live carried there =
    rw (stepped_at w e None (causes_are w (context_of_event e) ∙ ap (λ b. if b then None else if is_carried w (context_of_event e) then Some refusals.Stopped else Some refusals.NoSuch) live)) (at_live w m e s u live there)
at_place w m e false true s u live carried there = refused_at w m e refusals.Stopped s u (causes_are w (context_of_event e) ∙ rw (live, carried) refl)
at_place w m e false false s u live carried there = refused_at w m e refusals.NoSuch s u (causes_are w (context_of_event e) ∙ rw (live, carried) refl)

-- the machine follows it
pub unheard_follows : (w : World) (m : Machine) (e : Event) → Stands w m → IsUnheard w m e → Follows w m (world_events.At e)
unheard_follows w m e s u = at_place w m e _ _ s u refl refl (is_there w m (context_of_event e) s.placed)
