-- A context is asked: the machine follows by the verb alone, or by nothing where it counts as not made.
use Rattle.std.proofs.Common.{◌≡◌, ℕ, ◌-◌, List, [], ◌∷◌, ◌++◌, length, true, false, Bool, refl, sym, subst, ap, ◌∙◌, Some, None, Option, append-nil}
use Rattle.std.specs.Prelude.{if◌then◌else◌, is_some, bytes_eq, ◌||◌}
use Rattle.rdma_types.specs.declared.answers.Answer.{Answer}
use Rattle.rdma_types.specs.declared.answers.Answer.TheVariants as answers
use Rattle.rdma_types.specs.declared.names.Name.{Name}
use Rattle.rdma_types.specs.declared.names.ObjName.{ObjName}
use Rattle.rdma_types.specs.declared.answers.Refusal.{Refusal}
use Rattle.rdma_types.specs.declared.verbs.Verb.{Verb}
use Rattle.rdma_types.specs.declared.verbs.Verb.TheVariants as verbs
use Rattle.rdma_types.specs.Causes.{first_cause}
use Rattle.rdma_types.specs.Lists.{first_that, has_name, named}
use Rattle.rdma_types.specs.Memory.{cut, holds}
use Rattle.rdma_types.specs.Objects.{Region, no_region}
use Rattle.protocol.specs.declared.events.Event.{Event}
use Rattle.protocol.specs.declared.events.Event.TheVariants as events
use Rattle.protocol.specs.declared.events.WorldEvent.TheVariants as world_events
use Rattle.protocol.specs.declared.images.ContextImage.{ContextImage}
use Rattle.protocol.specs.DeviceStep as device
use Rattle.protocol.specs.DeviceStep.{device_step}
use Rattle.protocol.specs.Memory.{loaded}
use Rattle.protocol.specs.Refusals as refusing
use Rattle.protocol.specs.State.{World}
use Rattle.protocol.specs.WorldStep as step
use Rattle.protocol.specs.WorldStep.{carried_image, home, is_carried, is_live, ran, runs, world_step}
use Rattle.packetless_machine.specs.declared.steps.MachineStep.{MachineStep}
use Rattle.packetless_machine.specs.Legal.{after, seen}
use Rattle.packetless_machine.specs.Machine as machine
use Rattle.packetless_machine.specs.Machine.{Machine, has_context}
use Rattle.packetless_machine.specs.Verbs.{after_answer, after_verb, has_region, refusal_of, region_of, stored, verb_answer}
use Rattle.law_simulation.specs.Kept.{is_unmade, kept_of, kept_verb, verb_in, verb_of}
use Rattle.law_simulation.specs.Law.{IsEventInRange}
use Rattle.law_simulation.specs.Named.{EventsFollowByName, FollowsByName, given_in, spoken_steps, steps_by, turn_steps}
use Rattle.law_simulation.specs.Stands.{AreSame, Stands}
use Rattle.law_simulation.proofs.relation.Live.{live_of, live_same}
use Rattle.law_simulation.proofs.relation.Verbs.{causes_are, stepped_at}
use Rattle.law_simulation.proofs.relation.Worlds.{home_holds, is_there}
use Rattle.mailbox_rules.specs.State.{context_at, is_away}

-- ---- a verb

-- what a verb of a context is answered, and the machine that the next world stands for
pub data Asks (w : World) (m : Machine) (e : Event) (v : Verb) : Type 0 where
  Unmade : is_unmade (world_step w (world_events.At e)).answer ≡ true → Stands (world_step w (world_events.At e)).world m → Asks w m e v
  Made : (given : ℕ) → (world_step w (world_events.At e)).answer ≡ verb_answer m v given → Stands (world_step w (world_events.At e)).world (after_verb m v given) → Asks w m e v

abbrev last_heard : List (Verb × Answer) → Answer
last_heard [] = answers.Done
last_heard (x ∷ xs) = x.1

module _ (follow : EventsFollowByName) (w : World) (m : Machine) (e : Event) (v : Verb) (is : verb_in e ≡ Some v) (quiet : (a : Answer) → turn_steps e a ≡ []) (range : IsEventInRange e) (stands : Stands w m) where
  abbrev a : Answer
  a = (world_step w (world_events.At e)).answer

  by_name : FollowsByName w m (world_events.At e)
  by_name = follow (world_events.At e) w m range stands

  kept_is : (b : Bool) → is_unmade a ≡ b → kept_of w (world_events.At e) a ≡ (if b then [] else (v, a) ∷ [])
  unfolding verb_of kept_verb
  kept_is b u = ap (λ (o : Option Verb). kept_verb o a) is ∙ ap (λ (c : Bool). if c then [] else (v, a) ∷ []) u

  all_steps : (b : Bool) → is_unmade a ≡ b → steps_by w m (world_events.At e) a ≡ spoken_steps (if b then [] else (v, a) ∷ [])
  all_steps b u =
      ap (λ (ss : List MachineStep). spoken_steps (kept_of w (world_events.At e) a) ++ ss) (quiet a)
      ∙ (append-nil (spoken_steps (kept_of w (world_events.At e) a)) ∙ ap spoken_steps (kept_is b u))

  pub asks : Asks w m e v
  asks = by (is_unmade a) refl
    where
      by : (b : Bool) → is_unmade a ≡ b → Asks w m e v
      by true u = Unmade u (subst (λ (ss : List MachineStep). Stands (world_step w (world_events.At e)).world (after m ss)) (all_steps true u) by_name.stands)
      by false u =
          let heard : seen m (spoken_steps ((v, a) ∷ [])) ≡ (v, a) ∷ [] =
          ap (seen m) (sym (all_steps false u)) ∙ (by_name.heard ∙ kept_is false u) in
          Made (given_in a) (sym (ap last_heard heard)) (subst (λ (ss : List MachineStep). Stands (world_step w (world_events.At e)).world (after m ss)) (all_steps false u) by_name.stands)

-- ---- a context that is not carried lives

none_carried : (n : Name) (xs : List ContextImage) → is_some (first_that (λ c. bytes_eq c.name n) xs) ≡ false → has_name (λ c. c.name) n xs ≡ false
unfolding first_that has_name
none_carried n [] h = refl
none_carried n (x ∷ xs) h = by (bytes_eq x.name n) (none_carried n xs) h
  where
    by : (b : Bool) → (is_some (first_that (λ c. bytes_eq c.name n) xs) ≡ false → has_name (λ c. c.name) n xs ≡ false) → is_some (if b then Some x else first_that (λ c. bytes_eq c.name n) xs) ≡ false → (b || has_name (λ c. c.name) n xs) ≡ false
    by true rest f = cc
    by false rest f = rest f

pub lives : (w : World) (m : Machine) (n : ℕ) → Stands w m → has_context m (context_at n) ≡ true → is_away w n ≡ false → is_live w (context_at n) ≡ true
unfolding carried_image
lives w m n stands there home' =
    let carried : is_carried w (context_at n) ≡ false = none_carried (context_at n) w.carried home' in
    either (is_live w (context_at n)) (is_carried w (context_at n)) carried (sym (is_there w m (context_at n) stands.placed) ∙ there)
  where
    either : (a b : Bool) → b ≡ false → (a || b) ≡ true → a ≡ true
    either true b f g = refl
    either false b f g = sym f ∙ g

-- ---- a load

module _ (w : World) (m : Machine) (o : ObjName) (at n : ℕ) (s : Stands w m) (live : is_live w o.context ≡ true) (there : has_region m o ≡ true) (held : holds (region_of m o) at n ≡ true) where
  same : AreSame (live_of w o.context) (machine.context_of m o.context)
  same = live_same w m o.context s live

  not_refused : refusing.refusal_of (home w o.context) (events.Load o at n) ≡ None
  unfolding refusing.refusal_of first_cause region_of
  not_refused = rw (home_holds w o.context live, same.regions, there, held) refl

  is_done : world_step w (world_events.At (events.Load o at n)) ≡ ran w (device.loads (home w o.context) (named (λ r. r.name) no_region o.name (live_of w o.context).regions) at n)
  unfolding device_step
  is_done =
      stepped_at w (events.Load o at n) None (causes_are w o.context ∙ rw live refl)
      ∙ ap (λ x. ran w (device.by_refusal (home w o.context) (events.Load o at n) x)) not_refused

  pub loads_bytes : (world_step w (world_events.At (events.Load o at n))).answer ≡ answers.Bytes (cut (at - (region_of m o).base) n (region_of m o).bytes)
  unfolding ran step.numbered device.loads region_of
  loads_bytes =
      ap (λ (x : step.Step). x.answer) is_done
      ∙ ap (λ (rs : List Region). answers.Bytes (loaded (named (λ r. r.name) no_region o.name rs) at n)) same.regions

-- ---- a store

module _ (w : World) (m : Machine) (o : ObjName) (at : ℕ) (bytes : List ℕ) (s : Stands w m) (live : is_live w o.context ≡ true) (context : has_context m o.context ≡ true) (there : has_region m o ≡ true) (held : holds (region_of m o) at (length bytes) ≡ true) where
  store_not_refused : refusing.refusal_of (home w o.context) (events.Store o at bytes) ≡ None
  unfolding refusing.refusal_of first_cause region_of
  store_not_refused = rw (home_holds w o.context live, (live_same w m o.context s live).regions, there, held) refl

  store_is_done : world_step w (world_events.At (events.Store o at bytes)) ≡ ran w (device.stores (home w o.context) (live_of w o.context) (named (λ r. r.name) no_region o.name (live_of w o.context).regions) at bytes)
  unfolding device_step
  store_is_done =
      stepped_at w (events.Store o at bytes) None (causes_are w o.context ∙ rw live refl)
      ∙ ap (λ x. ran w (device.by_refusal (home w o.context) (events.Store o at bytes) x)) store_not_refused

  pub stores_answer : (world_step w (world_events.At (events.Store o at bytes))).answer ≡ answers.Done
  unfolding ran step.numbered device.stores
  stores_answer = ap (λ (x : step.Step). x.answer) store_is_done

  -- no image is carried away by it
  pub stores_carry : (world_step w (world_events.At (events.Store o at bytes))).world.carried ≡ w.carried
  unfolding ran device.stores step.with_device
  stores_carry = ap (λ (x : step.Step). x.world.carried) store_is_done

  refusals_none : refusal_of m (verbs.Store o at bytes) ≡ None
  unfolding first_cause region_of
  refusals_none = rw (context, there, held) refl

  pub stores_stand : Asks w m (events.Store o at bytes) (verbs.Store o at bytes) → Stands (world_step w (world_events.At (events.Store o at bytes))).world (stored m o at bytes)
  unfolding is_unmade
  stores_stand (Unmade u x) = let no : false ≡ true = ap is_unmade (sym stores_answer) ∙ u in cc
  stores_stand (Made given a x) =
      subst (λ (r : Option Refusal). Stands (world_step w (world_events.At (events.Store o at bytes))).world (after_answer r m (verbs.Store o at bytes) given)) refusals_none x
