-- The keys and numbers that a world gives have no more bits than their printed digits say.
use Rattle.std.proofs.Common.{arith, ◌≡◌, ℕ, ◌<◌, List, [], ◌∷◌, length, Bool, true, false, refl, sym, ◌∙◌, subst, Option, Some, None}
use Rattle.std.specs.Prelude.{◌^◌, ◌||◌, nat_le, if◌then◌else◌}
use Rattle.std.proofs.lemmas.Bool.Decides.{nat_tests, leb_tells}
use Rattle.rdma_types.specs.declared.answers.Answer.{Answer}
use Rattle.rdma_types.specs.declared.answers.Answer.TheVariants as answers
use Rattle.rdma_types.specs.declared.answers.Refusal.{Refusal}
use Rattle.rdma_types.specs.declared.answers.Refusal.TheVariants as refusals
use Rattle.rdma_types.specs.declared.names.Name.{Name}
use Rattle.rdma_types.specs.declared.names.ObjName.{ObjName}
use Rattle.rdma_types.specs.declared.rights.Rights.{Rights}
use Rattle.rdma_types.specs.declared.verbs.Verb.{Verb}
use Rattle.rdma_types.specs.declared.verbs.Verb.TheVariants as verbs
use Rattle.rdma_types.specs.Causes.{first_cause}
use Rattle.rdma_types.specs.Limits.{most_ends, most_regions}
use Rattle.protocol.specs.declared.events.Event.{Event}
use Rattle.protocol.specs.declared.events.Event.TheVariants as events
use Rattle.protocol.specs.declared.events.WorldEvent.{WorldEvent}
use Rattle.protocol.specs.declared.events.WorldEvent.TheVariants as world_events
use Rattle.protocol.specs.DeviceStep as device
use Rattle.protocol.specs.DeviceStep.{device_step}
use Rattle.protocol.specs.Refusals as refusing
use Rattle.protocol.specs.State.{World, context_at}
use Rattle.protocol.specs.WorldStep as step
use Rattle.protocol.specs.WorldStep.{context_causes, context_of_event, home, is_carried, is_live, ran, runs, world_step}
use Rattle.packetless_machine.specs.Machine.{Machine}
use Rattle.law_simulation.specs.Kept.{is_unmade, kept_of, kept_verb, verb_in, verb_of}
use Rattle.law_simulation.specs.Stands.{Stands}
use Rattle.law_simulation.proofs.relation.Refusing.{first_no, later_no}
use Rattle.law_simulation.proofs.relation.Verbs.{causes_are, stepped_at}
use Rattle.law_simulation.proofs.relation.Worlds.{home_id}

-- ---- what answers say

-- keys of 32 bits, and a number of 24
abbrev pub IsSayable : Answer → Type 0
IsSayable (answers.Region keys) = (keys.local < 2 ^ 32) × (keys.remote < 2 ^ 32)
IsSayable (answers.Qp number) = number < 2 ^ 24
IsSayable other = Unit {0}

-- .. in the answer to a verb that gives any
abbrev pub Gives : Verb → Answer → Type 0
Gives (verbs.MakeRegion name domain base count rights) a = IsSayable a
Gives (verbs.MakeQp name domain send_cq recv_cq send_depth recv_depth) a = IsSayable a
Gives other a = Unit {0}

-- .. in all these answers
abbrev pub AreSayable : List (Verb × Answer) → Type 0
AreSayable [] = Unit {0}
AreSayable (x ∷ xs) = Gives x.0 x.1 × AreSayable xs

-- ---- where an event is handed to a device

few : (other : Bool) (most n : ℕ) → (other || nat_le most n) ≡ false → n < most
few true most n h = absurd (cc)
few false most n h = grind (arith, nat_tests, leb_tells most n)

-- a context that nothing refuses lives
lives : (w : World) (c : Name) → first_cause (context_causes w c []) ≡ None → is_live w c ≡ true
lives w c h = by (is_live w c) (is_carried w c) (sym (causes_are w c) ∙ h)
  where
    by : (l k : Bool) → (if l then None else if k then Some refusals.Stopped else Some refusals.NoSuch) ≡ None → l ≡ true
    by true k e = refl
    by false true e = absurd (cc)
    by false false e = absurd (cc)

-- an event of a context: refused, or what the device there does
handed : (w : World) (e : Event) → (is_live w (context_of_event e) ≡ true → IsSayable (runs w (home w (context_of_event e)) e).answer) → IsSayable (world_step w (world_events.At e)).answer
handed w e done = by (first_cause (context_causes w (context_of_event e) [])) refl
  where
    by : (r : Option Refusal) → first_cause (context_causes w (context_of_event e) []) ≡ r → IsSayable (world_step w (world_events.At e)).answer
    by (Some r) h = subst (λ (s : step.Step). IsSayable s.answer) (sym (stepped_at w e (Some r) h)) tt
    by None h = subst (λ (s : step.Step). IsSayable s.answer) (sym (stepped_at w e None h)) (done (lives w (context_of_event e) h))

-- ---- a region

module _ (w : World) (m : Machine) (s : Stands w m) (o : ObjName) (domain : Option Name) where
  region_by : (base count : ℕ) (rights : Rights) → is_live w o.context ≡ true → (r : Option Refusal) → refusing.refusal_of (home w o.context) (events.MakeRegion o domain base count rights) ≡ r →
      IsSayable (ran w (device.by_refusal (home w o.context) (events.MakeRegion o domain base count rights) r)).answer
  unfolding ran step.numbered device.makes_region refusing.refusal_of
  region_by base count rights live (Some r) h = tt
  region_by base count rights live None h =
      let said : (home w o.context).id < 256 = home_id (λ k. k < 256) w o.context live s.placed.ids_said in
      let left : (home w o.context).key_count < 8388607 =
      few (nat_le most_regions (length (context_at (home w o.context) o.context).regions)) 8388607 (home w o.context).key_count (first_no refusals.TooMany _ _ (later_no refusals.NumberTaken _ _ (later_no refusals.NoSuch _ _ (later_no refusals.Stopped _ _ (later_no refusals.NoSuch _ _ h))))) in
      (omega arith, omega arith)

  pub region_sayable : (base count : ℕ) (rights : Rights) → IsSayable (world_step w (world_events.At (events.MakeRegion o domain base count rights))).answer
  unfolding device_step
  region_sayable base count rights = handed w (events.MakeRegion o domain base count rights) (λ live. region_by base count rights live _ refl)

  -- ---- a queue pair

  end_by : (send_cq recv_cq : Option Name) (send recv : ℕ) → is_live w o.context ≡ true → (r : Option Refusal) → refusing.refusal_of (home w o.context) (events.MakeQp o domain send_cq recv_cq send recv) ≡ r →
      IsSayable (ran w (device.by_refusal (home w o.context) (events.MakeQp o domain send_cq recv_cq send recv) r)).answer
  unfolding ran step.numbered device.makes_end refusing.refusal_of
  end_by send_cq recv_cq send recv live (Some r) h = tt
  end_by send_cq recv_cq send recv live None h =
      let said : (home w o.context).id < 256 = home_id (λ k. k < 256) w o.context live s.placed.ids_said in
      let left : (home w o.context).qp_count < 65535 =
      few (nat_le most_ends (length (context_at (home w o.context) o.context).ends)) 65535 (home w o.context).qp_count (first_no refusals.TooMany _ _ (later_no refusals.NumberTaken _ _ (later_no refusals.NoSuch _ _ (later_no refusals.Stopped _ _ (later_no refusals.NoSuch _ _ h))))) in
      omega arith

  pub end_sayable : (send_cq recv_cq : Option Name) (send recv : ℕ) → IsSayable (world_step w (world_events.At (events.MakeQp o domain send_cq recv_cq send recv))).answer
  unfolding device_step
  end_sayable send_cq recv_cq send recv = handed w (events.MakeQp o domain send_cq recv_cq send recv) (λ live. end_by send_cq recv_cq send recv live _ refl)

-- ---- any event

abbrev GivesIf : Option Verb → Answer → Type 0
GivesIf None a = Unit {0}
GivesIf (Some v) a = Gives v a

event_gives : (w : World) (m : Machine) → Stands w m → (e : WorldEvent) → GivesIf (verb_of w e) (world_step w e).answer
unfolding verb_of verb_in
event_gives w m s (world_events.At (events.MakeRegion o domain base count rights)) = region_sayable w m s o domain base count rights
event_gives w m s (world_events.At (events.MakeQp o domain send_cq recv_cq send recv)) = end_sayable w m s o domain send_cq recv_cq send recv
event_gives w m s (world_events.At e) = tt
event_gives w m s other = tt

kept_gives : (o : Option Verb) (a : Answer) → GivesIf o a → AreSayable (kept_verb o a)
unfolding kept_verb
kept_gives None a h = tt
kept_gives (Some v) a h = by (is_unmade a)
  where
    by : (b : Bool) → AreSayable (if b then [] else (v, a) ∷ [])
    by true = tt
    by false = (h, tt)

-- the verb of an event that counts as made
pub kept_sayable : (w : World) (m : Machine) → Stands w m → (e : WorldEvent) → AreSayable (kept_of w e (world_step w e).answer)
kept_sayable w m s e = kept_gives (verb_of w e) (world_step w e).answer (event_gives w m s e)
