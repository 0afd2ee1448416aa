-- The machine follows each event, and each run, by the steps that are named.
use Rattle.std.proofs.Common.{◌≡◌, ℕ, List, [], ◌∷◌, ◌++◌, true, refl, sym, ap, ◌∙◌, subst}
use Rattle.std.specs.Prelude.{Option, Some, None}
use Rattle.std.proofs.lemmas.List.{append-nil}
use Rattle.rdma_types.specs.declared.answers.Answer.{Answer}
use Rattle.rdma_types.specs.declared.answers.Refusal.{Refusal}
use Rattle.rdma_types.specs.declared.verbs.Verb.{Verb}
use Rattle.rdma_types.specs.declared.verbs.Verb.TheVariants as verbs
use Rattle.protocol.specs.declared.events.Event.{Event}
use Rattle.protocol.specs.declared.events.Event.TheVariants as events
use Rattle.protocol.specs.declared.events.WorldEvent.{WorldEvent}
use Rattle.protocol.specs.declared.events.WorldEvent.TheVariants as world_events
use Rattle.protocol.specs.State.{World}
use Rattle.protocol.specs.WorldStep.{world_step, world_after}
use Rattle.packetless_machine.specs.declared.steps.MachineStep.{MachineStep}
use Rattle.packetless_machine.specs.declared.steps.MachineStep.TheVariants as steps
use Rattle.packetless_machine.specs.Legal.{IsRun, after, effect, seen}
use Rattle.packetless_machine.specs.Machine.{Machine}
use Rattle.packetless_machine.specs.Verbs.{after_answer, answered, may_answer, refusal_of, verb_answer}
use Rattle.law_simulation.specs.Carries.{Allows}
use Rattle.law_simulation.specs.Kept as kept_verbs
use Rattle.law_simulation.specs.Kept.{kept_of}
use Rattle.law_simulation.specs.Law.{AlwaysFollows, Follows, IsInRange, Reaches, inner_of}
use Rattle.law_simulation.specs.Named.{AlwaysFollowsByName, EventsFollowByName, FollowsByName, ReachesByName, RunFollowsByName, RunsFollowByName, event_steps, given_in, inner_by, run_steps, spoken_steps, steps_by, steps_of_each}
use Rattle.law_simulation.specs.Stands.{Stands}
use Rattle.law_simulation.proofs.runs.Inner.{named_inner}
use Rattle.law_simulation.proofs.runs.Runs.{after_on, first_of_all, rest_of_all, runs_on, seen_on}

-- ---- where no verb is heard, all steps are inner ones

unheard_inner : (m : Machine) (ss : List MachineStep) → seen m ss ≡ [] → inner_of ss ≡ ss
unheard_inner m [] h = refl
unheard_inner m (steps.Verb verb given ∷ ss) h = absurd (cc)
unheard_inner m (steps.Run q n ∷ ss) h = ap (λ z. steps.Run q n ∷ z) (unheard_inner (effect m (steps.Run q n)) ss h)
unheard_inner m (steps.Atom q ∷ ss) h = ap (λ z. steps.Atom q ∷ z) (unheard_inner (effect m (steps.Atom q)) ss h)
unheard_inner m (steps.ReadTurn q ∷ ss) h = ap (λ z. steps.ReadTurn q ∷ z) (unheard_inner (effect m (steps.ReadTurn q)) ss h)
unheard_inner m (steps.Refuse q why ∷ ss) h = ap (λ z. steps.Refuse q why ∷ z) (unheard_inner (effect m (steps.Refuse q why)) ss h)
unheard_inner m (steps.Dry q ∷ ss) h = ap (λ z. steps.Dry q ∷ z) (unheard_inner (effect m (steps.Dry q)) ss h)
unheard_inner m (steps.Offer q i off n ∷ ss) h = ap (λ z. steps.Offer q i off n ∷ z) (unheard_inner (effect m (steps.Offer q i off n)) ss h)
unheard_inner m (steps.Land q o ∷ ss) h = ap (λ z. steps.Land q o ∷ z) (unheard_inner (effect m (steps.Land q o)) ss h)
unheard_inner m (steps.Known q bytes ∷ ss) h = ap (λ z. steps.Known q bytes ∷ z) (unheard_inner (effect m (steps.Known q bytes)) ss h)
unheard_inner m (steps.Tell q ∷ ss) h = ap (λ z. steps.Tell q ∷ z) (unheard_inner (effect m (steps.Tell q)) ss h)
unheard_inner m (steps.Expire q ∷ ss) h = ap (λ z. steps.Expire q ∷ z) (unheard_inner (effect m (steps.Expire q)) ss h)
unheard_inner m (steps.Wait q ∷ ss) h = ap (λ z. steps.Wait q ∷ z) (unheard_inner (effect m (steps.Wait q)) ss h)
unheard_inner m (steps.Bounce q ∷ ss) h = ap (λ z. steps.Bounce q ∷ z) (unheard_inner (effect m (steps.Bounce q)) ss h)

-- ---- a verb with the key or number that its answer gives

-- it may be made so, answers the same, and leads to the same state: only the answers of a region and of a queue pair look at
-- what is given
record IsSpoken (r : Option Refusal) (m : Machine) (v : Verb) (given : ℕ) : Type 0 where
  may : may_answer r m v (given_in (answered r m v given)) ≡ true
  same : after_answer r m v (given_in (answered r m v given)) ≡ after_answer r m v given
  says : answered r m v (given_in (answered r m v given)) ≡ answered r m v given

spoken_given : (r : Option Refusal) (m : Machine) (v : Verb) (given : ℕ) → may_answer r m v given ≡ true → IsSpoken r m v given
spoken_given (Some r) m v given may = record { may = refl; same = refl; says = refl }
spoken_given None m (verbs.MakeRegion name domain base count rights) given may = record { may = may; same = refl; says = refl }
spoken_given None m (verbs.MakeQp name domain send_cq recv_cq send_depth recv_depth) given may = record { may = may; same = refl; says = refl }
spoken_given None m (verbs.Context name made) given may = record { may = refl; same = refl; says = refl }
spoken_given None m (verbs.Connect one two terms) given may = record { may = refl; same = refl; says = refl }
spoken_given None m (verbs.MakeDomain name) given may = record { may = refl; same = refl; says = refl }
spoken_given None m (verbs.MakeCq name capacity) given may = record { may = refl; same = refl; says = refl }
spoken_given None m (verbs.DropRegion name) given may = record { may = refl; same = refl; says = refl }
spoken_given None m (verbs.Store region address bytes) given may = record { may = refl; same = refl; says = refl }
spoken_given None m (verbs.Load region address count) given may = record { may = refl; same = refl; says = refl }
spoken_given None m (verbs.PostSend o r) given may = record { may = refl; same = refl; says = refl }
spoken_given None m (verbs.PostRecv o r) given may = record { may = refl; same = refl; says = refl }
spoken_given None m (verbs.Poll cq max) given may = record { may = refl; same = refl; says = refl }

-- steps that are all verbs, as they are heard
record AreSpoken (m : Machine) (ss : List MachineStep) : Type 0 where
  is_run : IsRun m (spoken_steps (seen m ss))
  same : after m (spoken_steps (seen m ss)) ≡ after m ss
  says : seen m (spoken_steps (seen m ss)) ≡ seen m ss

spoken_on : (m m' : Machine) (v : Verb) (a : Answer) (ss : List MachineStep) (xs : List (Verb × Answer)) → m' ≡ m → IsRun m ss → seen m ss ≡ xs → (IsRun m' ss) × (after m' ss ≡ after m ss) × ((v, a) ∷ seen m' ss ≡ (v, a) ∷ xs)
spoken_on m m' v a ss xs same run says = (subst (λ z. IsRun z ss) (sym same) run, ap (λ z. after z ss) same, ap (λ z. (v, a) ∷ z) (ap (λ z. seen z ss) same ∙ says))

spoken_all : (m : Machine) (ss : List MachineStep) → inner_of ss ≡ [] → IsRun m ss → AreSpoken m ss
spoken_all m [] none run = record { is_run = tt; same = refl; says = refl }
spoken_all m (steps.Verb v given ∷ ss) none run =
    let one : IsSpoken (refusal_of m v) m v given = spoken_given (refusal_of m v) m v given run.0 in
    let m1 : Machine = effect m (steps.Verb v given) in
    let m2 : Machine = effect m (steps.Verb v (given_in (verb_answer m v given))) in
    let rest : AreSpoken m1 ss = spoken_all m1 ss none run.1 in
    let on = spoken_on m1 m2 v (verb_answer m v given) (spoken_steps (seen m1 ss)) (seen m1 ss) one.same rest.is_run rest.says in
    record {
      is_run = (one.may, on.0);
      same = on.1 ∙ rest.same;
      says = ap (λ z. (v, z) ∷ seen m2 (spoken_steps (seen m1 ss))) one.says ∙ on.2;
    }
spoken_all m (steps.Run q n ∷ ss) none run = absurd (cc)
spoken_all m (steps.Atom q ∷ ss) none run = absurd (cc)
spoken_all m (steps.ReadTurn q ∷ ss) none run = absurd (cc)
spoken_all m (steps.Refuse q why ∷ ss) none run = absurd (cc)
spoken_all m (steps.Dry q ∷ ss) none run = absurd (cc)
spoken_all m (steps.Offer q i off n ∷ ss) none run = absurd (cc)
spoken_all m (steps.Land q o ∷ ss) none run = absurd (cc)
spoken_all m (steps.Known q bytes ∷ ss) none run = absurd (cc)
spoken_all m (steps.Tell q ∷ ss) none run = absurd (cc)
spoken_all m (steps.Expire q ∷ ss) none run = absurd (cc)
spoken_all m (steps.Wait q ∷ ss) none run = absurd (cc)
spoken_all m (steps.Bounce q ∷ ss) none run = absurd (cc)

-- ---- an event that is followed by steps with these inner ones

-- no inner step
by_verb : (w : World) (m : Machine) (e : WorldEvent) (w' : World) (a : Answer) (r : Reaches w m e w' a) → inner_by w m e a ≡ [] → inner_of r.steps ≡ [] → ReachesByName w m e w' a
by_verb w m e w' a r none inner =
    let all : AreSpoken m r.steps = spoken_all m r.steps inner r.is_run in
    let are : steps_by w m e a ≡ spoken_steps (seen m r.steps) = ap (λ z. spoken_steps (kept_of w e a) ++ z) none ∙ (append-nil (spoken_steps (kept_of w e a)) ∙ ap spoken_steps (sym r.heard)) in
    record {
      is_run = subst (IsRun m) (sym are) all.is_run;
      heard = ap (seen m) are ∙ (all.says ∙ r.heard);
      allowed = subst (Allows w m e a) (inner ∙ sym none) r.allowed;
      stands = subst (λ z. Stands w' (after m z)) (sym are) (subst (Stands w') (sym all.same) r.stands);
    }

-- no verb
by_inner : (w : World) (m : Machine) (e : WorldEvent) (w' : World) (a : Answer) (r : Reaches w m e w' a) → kept_of w e a ≡ [] → inner_of r.steps ≡ inner_by w m e a → ReachesByName w m e w' a
by_inner w m e w' a r unheard inner =
    let are : steps_by w m e a ≡ r.steps = ap (λ z. spoken_steps z ++ inner_by w m e a) unheard ∙ (sym inner ∙ unheard_inner m r.steps (r.heard ∙ unheard)) in
    record {
      is_run = subst (IsRun m) (sym are) r.is_run;
      heard = ap (seen m) are ∙ r.heard;
      allowed = subst (Allows w m e a) inner r.allowed;
      stands = subst (λ z. Stands w' (after m z)) (sym are) r.stands;
    }

-- ---- each event

expiry_unheard : (w : World) (o : _) (a : Answer) → kept_of w (world_events.At (events.Expire o)) a ≡ []
unfolding kept_verbs.verb_of kept_verbs.verb_in kept_verbs.kept_verb
expiry_unheard w o a = refl

at_named : (w : World) (m : Machine) (e : Event) → Follows w m (world_events.At e) → FollowsByName w m (world_events.At e)
at_named w m (events.Expire o) f = by_inner w m (world_events.At (events.Expire o)) _ _ f (expiry_unheard w o _) f.allowed
at_named w m (events.MakeContext name) f = by_verb w m (world_events.At (events.MakeContext name)) _ _ f refl f.allowed
at_named w m (events.MakeDomain o) f = by_verb w m (world_events.At (events.MakeDomain o)) _ _ f refl f.allowed
at_named w m (events.MakeRegion o domain base length rights) f = by_verb w m (world_events.At (events.MakeRegion o domain base length rights)) _ _ f refl f.allowed
at_named w m (events.MakeCq o capacity) f = by_verb w m (world_events.At (events.MakeCq o capacity)) _ _ f refl f.allowed
at_named w m (events.MakeQp o domain send_cq recv_cq send_depth recv_depth) f = by_verb w m (world_events.At (events.MakeQp o domain send_cq recv_cq send_depth recv_depth)) _ _ f refl f.allowed
at_named w m (events.Connect end peer partner terms) f = by_verb w m (world_events.At (events.Connect end peer partner terms)) _ _ f refl f.allowed
at_named w m (events.DropRegion o) f = by_verb w m (world_events.At (events.DropRegion o)) _ _ f refl f.allowed
at_named w m (events.Store o address bytes) f = by_verb w m (world_events.At (events.Store o address bytes)) _ _ f refl f.allowed
at_named w m (events.Load o address length) f = by_verb w m (world_events.At (events.Load o address length)) _ _ f refl f.allowed
at_named w m (events.PostSend o r) f = by_verb w m (world_events.At (events.PostSend o r)) _ _ f refl f.allowed
at_named w m (events.PostRecv o r) f = by_verb w m (world_events.At (events.PostRecv o r)) _ _ f refl f.allowed
at_named w m (events.Poll o most) f = by_verb w m (world_events.At (events.Poll o most)) _ _ f refl f.allowed
at_named w m (events.Transmit o) f = by_verb w m (world_events.At (events.Transmit o)) _ _ f refl f.allowed
at_named w m (events.Arrive from bytes) f = by_verb w m (world_events.At (events.Arrive from bytes)) _ _ f refl f.allowed
at_named w m (events.RnrOver o) f = by_verb w m (world_events.At (events.RnrOver o)) _ _ f refl f.allowed
at_named w m (events.Stop name alone) f = by_verb w m (world_events.At (events.Stop name alone)) _ _ f refl f.allowed
at_named w m (events.Restore image) f = by_verb w m (world_events.At (events.Restore image)) _ _ f refl f.allowed
at_named w m (events.Release name) f = by_verb w m (world_events.At (events.Release name)) _ _ f refl f.allowed

-- .. where the machine follows each event, and each delivery by the named steps
pub each_named : ((e : WorldEvent) → AlwaysFollows e) → ((k : ℕ) → AlwaysFollowsByName (world_events.Deliver k)) → EventsFollowByName
each_named follows deliveries (world_events.Deliver k) w m range s = deliveries k w m range s
each_named follows deliveries (world_events.At e) w m range s = at_named w m e (follows (world_events.At e) w m range s)
each_named follows deliveries (world_events.AddDevice id address) w m range s = let f : Follows w m (world_events.AddDevice id address) = follows (world_events.AddDevice id address) w m range s in by_verb w m (world_events.AddDevice id address) _ _ f refl f.allowed
each_named follows deliveries (world_events.MakeContext name device) w m range s = let f : Follows w m (world_events.MakeContext name device) = follows (world_events.MakeContext name device) w m range s in by_verb w m (world_events.MakeContext name device) _ _ f refl f.allowed
each_named follows deliveries (world_events.Connect one two terms) w m range s = let f : Follows w m (world_events.Connect one two terms) = follows (world_events.Connect one two terms) w m range s in by_verb w m (world_events.Connect one two terms) _ _ f refl f.allowed
each_named follows deliveries (world_events.Lose k) w m range s = let f : Follows w m (world_events.Lose k) = follows (world_events.Lose k) w m range s in by_verb w m (world_events.Lose k) _ _ f refl f.allowed
each_named follows deliveries (world_events.Wire k) w m range s = let f : Follows w m (world_events.Wire k) = follows (world_events.Wire k) w m range s in by_verb w m (world_events.Wire k) _ _ f refl f.allowed
each_named follows deliveries (world_events.Stop name) w m range s = let f : Follows w m (world_events.Stop name) = follows (world_events.Stop name) w m range s in by_verb w m (world_events.Stop name) _ _ f refl f.allowed
each_named follows deliveries (world_events.Restore name device) w m range s = let f : Follows w m (world_events.Restore name device) = follows (world_events.Restore name device) w m range s in by_verb w m (world_events.Restore name device) _ _ f refl f.allowed
each_named follows deliveries (world_events.Release name device) w m range s = let f : Follows w m (world_events.Release name device) = follows (world_events.Release name device) w m range s in by_verb w m (world_events.Release name device) _ _ f refl f.allowed

-- ---- runs

-- an event that is followed, before a run that is
named_on : (w : World) (m : Machine) (e : WorldEvent) (es : List WorldEvent) → FollowsByName w m e → RunFollowsByName (world_step w e).world (after m (event_steps w m e)) es → RunFollowsByName w m (e ∷ es)
unfolding world_after steps_of_each
named_on w m e es f rest =
    let m1 : Machine = after m (event_steps w m e) in
    let more : List MachineStep = run_steps (world_step w e).world m1 es in
    record {
      is_run = runs_on m (event_steps w m e) more f.is_run rest.is_run;
      heard = seen_on m (event_steps w m e) more ∙ rw (f.heard, rest.heard) refl;
      allowed = (subst (Allows w m e (world_step w e).answer) (sym (named_inner w m e)) f.allowed, rest.allowed);
      stands = rw (after_on m (event_steps w m e) more) rest.stands;
    }

no_events : (w : World) (m : Machine) → Stands w m → RunFollowsByName w m []
unfolding world_after steps_of_each
no_events w m s = record { is_run = tt; heard = refl; allowed = tt; stands = s }

pub runs_named : EventsFollowByName → RunsFollowByName
runs_named named w m [] ranges s = no_events w m s
runs_named named w m (e ∷ es) ranges s =
    let f : FollowsByName w m e = named e w m (first_of_all IsInRange e es ranges) s in
    named_on w m e es f (runs_named named (world_step w e).world (after m (event_steps w m e)) es (rest_of_all IsInRange e es ranges) f.stands)
