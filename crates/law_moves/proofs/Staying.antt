-- No step of an evacuation loses a context.
use Rattle.std.proofs.Common.{arith, ◌≡◌, ◌≢◌, ℕ, suc, ◌==◌, List, [], ◌∷◌, true, false, Bool, refl, sym, ap, ◌∙◌, subst, ◌⊎◌, inl, inr, Option, Some, None}
use Rattle.std.specs.Prelude.{bytes_eq, ◌||◌, ◌&&◌, not, All, if◌then◌else◌}
use Rattle.std.proofs.lemmas.List.Elements.{All-head, All-tail, All-weaker}
use Rattle.std.proofs.lemmas.Bool.Decides.{nat_tests, eqb_tells}
use Rattle.rdma_types.specs.declared.answers.Refusal.TheVariants as refusal
use Rattle.rdma_types.specs.declared.names.Name.{Name}
use Rattle.rdma_types.specs.Causes.{Cause, cause, first_cause}
use Rattle.rdma_types.specs.Lists.{first_that, has_name, has_word, without}
use Rattle.protocol.specs.declared.events.WorldEvent.TheVariants as world_event
use Rattle.protocol.specs.declared.images.ContextImage.{ContextImage}
use Rattle.protocol.specs.Images.{image_of}
use Rattle.protocol.specs.Refusals.{has_context}
use Rattle.protocol.specs.Script.{Happening, Event, Dump, Settles, happens}
use Rattle.protocol.specs.State.{Device, World, device_at}
use Rattle.protocol.specs.WorldStep as step
use Rattle.protocol.specs.WorldStep.{carried_image, has_device, home, is_carried, is_live, live_context, world_after, world_step}
use Rattle.packetless_machine.specs.Machine.{Machine}
use Rattle.packetless_machine.specs.Legal.{after}
use Rattle.law_simulation.specs.Stands.{Stands, names_of}
use Rattle.law_simulation.specs.Views.{contexts_of}
use Rattle.law_simulation.specs.Law.{FollowsRun, joined_steps}
use Rattle.law_simulation.proofs.relation.Tables.{has_name-push, name_tells}
use Rattle.law_simulation.proofs.relation.Worlds.{has_context_is, has_name-names, home_device, home_holds}
use Rattle.law_simulation.proofs.stop_restore.Lists.{all_before, has_without, present_counted}
use Rattle.law_headline.specs.Does.{IsWithin}
use Rattle.law_headline.specs.Script.{world_left}
use Rattle.evac_rules.specs.Evacuation.{evacuation}
use Rattle.law_moves.specs.Evacuated.{EvacuationsAreFollowed, LivesOn, NothingIsLost}
use Rattle.law_moves.proofs.Emptying.{AreLaws, IsStanding, image_carried, kept_lives, stands_on, taken_grows}
use Rattle.law_moves.proofs.Homes.{IsHome, home_is}
use Rattle.law_moves.proofs.Leading.{IsStep, evacuation_leads, step_within}
use Rattle.law_moves.proofs.Restores.{IsReleased, IsTaken, IsTried, release_ends, restore_ends, taken_here}
use Rattle.law_moves.proofs.Settles.{IsKept, events_keep, settling_is_kept}
use Rattle.law_moves.proofs.Stops.{IsGone, IsStopped, stop_ends}

named_image : (n : Name) (i : ContextImage) (xs : List ContextImage) → first_that (λ c. bytes_eq c.name n) xs ≡ Some i → i.name ≡ n
unfolding first_that
named_image n i [] h = absurd (cc)
named_image n i (x ∷ xs) h = grind (arith, name_tells x.name n, named_image n i xs)

-- ---- contexts that live or are carried

abbrev IsKnown : World → Name → Type 0
IsKnown w c = (is_live w c || is_carried w c) ≡ true

-- those of w are known in w'
abbrev Stays : World → World → Type 0
Stays w w' = (c : Name) → IsKnown w c → IsKnown w' c

either : (a b : Bool) → b ≡ true → (a || b) ≡ true
either true b h = refl
either false b h = h

stays_as : (w w' : World) → w' ≡ w → Stays w w'
stays_as w w' same c known = subst (λ z. IsKnown z c) (sym same) known

lives_at : (w : World) (m : Machine) (c : Name) → Stands w m → is_live w c ≡ true → LivesOn w (home w c).id c
lives_at w m c s live = ap (λ (d : Device). has_context d c) (home_device w m c s.placed live) ∙ home_holds w c live

known_there : (w : World) (m : Machine) (k : ℕ) (c : Name) → Stands w m → LivesOn w k c → IsKnown w c
known_there w m k c s lives = let h : IsHome w k c = home_is w m k c s.placed lives in ap (λ b. b || is_carried w c) h.live

known_carried : (w : World) (c : Name) → is_carried w c ≡ true → IsKnown w c
known_carried w c h = either (is_live w c) (is_carried w c) h

by_place : (w w' : World) (m : Machine) → Stands w m → ((k : ℕ) (c : Name) → LivesOn w k c → IsKnown w' c) → ((c : Name) → is_carried w c ≡ true → IsKnown w' c) → Stays w w'
by_place w w' m s lives carried c known = by (is_live w c) refl known
  where
    by : (b : Bool) → is_live w c ≡ b → (b || is_carried w c) ≡ true → IsKnown w' c
    by true is h = lives (home w c).id c (lives_at w m c s is)
    by false is h = carried c h

-- ---- each kind of step

kept_stays : (w w' : World) (m m' : Machine) → Stands w m → Stands w' m' → IsKept w w' → Stays w w'
kept_stays w w' m m' s s' kept =
    by_place w w' m s
    (λ k c lives. known_there w' m' k c s' (kept_lives w w' k c kept lives))
    (λ c carried. known_carried w' c (ap (has_name (λ z. z.name) c) kept.carried ∙ carried))

number_or_not : (a b : ℕ) → (a ≡ b) ⊎ (a ≢ b)
number_or_not a b = by_test (a == b) refl
  where
    by_test : (r : Bool) → (a == b) ≡ r → (a ≡ b) ⊎ (a ≢ b)
    by_test true h = inl (grind (arith, nat_tests, eqb_tells a b, h))
    by_test false h = inr (λ e. grind (arith, nat_tests, eqb_tells a b, h, e))

gone_stays : (w w' : World) (m m' : Machine) (k : ℕ) (n : Name) → Stands w m → Stands w' m' → IsGone w w' k n → Stays w w'
unfolding carried_image
gone_stays w w' m m' k n s s' g = by_place w w' m s lives carried
  where
    at_home : (c : Name) → c ≢ n → LivesOn w k c → LivesOn w' k c
    at_home c ne l =
        ap (λ (d : Device). has_context d c) g.device
        ∙ (ap (λ j. has_name (λ z. z.name) c (without (λ z. z.name) j (device_at w k).contexts)) g.name
        ∙ (has_without (λ z. z.name) n c (device_at w k).contexts ne ∙ l))

    lives_still : (j : ℕ) (c : Name) → c ≢ n → LivesOn w j c → LivesOn w' j c
    lives_still j c ne l = elim (number_or_not j k) [
      | inl is ↦ subst (λ i. LivesOn w' i c) (sym is) (at_home c ne (subst (λ i. LivesOn w i c) is l))
      | inr not_it ↦ ap (λ (d : Device). has_context d c) (g.others j not_it) ∙ l
    ]

    is_image : is_carried w' n ≡ true
    is_image = image_carried n (image_of (live_context w n)) w'.carried g.image

    lives : (j : ℕ) (c : Name) → LivesOn w j c → IsKnown w' c
    lives j c l = elim (name_tells c n) [
      | inl t ↦ known_carried w' c (ap (is_carried w') t.1 ∙ is_image)
      | inr t ↦ known_there w' m' j c s' (lives_still j c t.1 l)
    ]

    carried : (c : Name) → is_carried w c ≡ true → IsKnown w' c
    carried c h = known_carried w' c (ap (has_name (λ z. z.name) c) g.carried ∙ (has_name-push (λ z. z.name) c w.carried (image_of (live_context w n)) ∙ ap (λ b. b || bytes_eq (image_of (live_context w n)).name c) h))

not_live : (live carried : Bool) (w : World) (more : List Cause) (s : step.Step) → live ≡ false → (step.by_refusal w (first_cause (cause refusal.NoSuch (not live && not carried) ∷ cause refusal.Stopped (not live) ∷ more)) s).world ≡ w
unfolding first_cause
not_live true carried w more s h = absurd (cc)
not_live false true w more s h = refl
not_live false false w more s h = refl

module _ (w w' : World) (m m' : Machine) (s : Stands w m) (s' : Stands w' m') where
  stop_stays : (n : Name) → w' ≡ (world_step w (world_event.Stop n)).world → Stays w w'
  unfolding world_step step.stops
  stop_stays n is = by (is_live w n) refl
    where
      ended : IsStopped w (world_step w (world_event.Stop n)).world (home w n).id n (world_step w (world_event.Stop n)).answer → Stays w w'
      ended (inl h) = stays_as w w' (is ∙ h.same)
      ended (inr g) = gone_stays w w' m m' (home w n).id n s s' (subst (λ z. IsGone w z (home w n).id n) (sym is) g.1)

      by : (b : Bool) → is_live w n ≡ b → Stays w w'
      by true live = ended (stop_ends w m s (home w n).id n (lives_at w m n s live))
      by false live = stays_as w w' (is ∙ not_live (is_live w n) (is_carried w n) w _ _ live)

  taken_stays : (k : ℕ) (n : Name) (i : ContextImage) → i.name ≡ n → IsTaken w w' k n i → Stays w w'
  taken_stays k n i name t = by_place w w' m s lives carried
    where
      lives : (j : ℕ) (c : Name) → LivesOn w j c → IsKnown w' c
      lives j c l = known_there w' m' j c s' (taken_grows (suc j) k w w' n i t j (λ e. omega (arith, e)) c l)

      carried : (c : Name) → is_carried w c ≡ true → IsKnown w' c
      carried c h = elim (name_tells c n) [
        | inl e ↦ subst (IsKnown w') (sym e.1) (known_there w' m' k n s' (taken_here w w' m' k n i name s' t).there)
        | inr e ↦ known_carried w' c (ap (has_name (λ z. z.name) c) t.carried ∙ (has_without (λ z. z.name) n c w.carried e.1 ∙ h))
      ]

  restore_stays : (n : Name) (k : ℕ) → w' ≡ (world_step w (world_event.Restore n k)).world → Stays w w'
  unfolding world_step step.restores carried_image first_cause
  restore_stays n k is = by (carried_image w n) refl
    where
      none : (b : Bool) → (step.by_refusal w (if b then Some refusal.NoSuch else None) (step.restores_image w n k None)).world ≡ w
      none true = refl
      none false = refl

      unstopped : (a b : Bool) (t : step.Step) → b ≡ false → (step.by_refusal w (if not a || not b then Some refusal.NoSuch else None) t).world ≡ w
      unstopped true b t h = ap (λ z. (step.by_refusal w (if not z then Some refusal.NoSuch else None) t).world) h
      unstopped false b t h = refl

      tried : (i : ContextImage) → i.name ≡ n → (b : Bool) → IsTried w (world_step w (world_event.Restore n k)).world k n i b → Stays w w'
      tried i name b (inl same) = stays_as w w' (is ∙ same.1)
      tried i name b (inr t) = taken_stays k n i name (subst (λ z. IsTaken w z k n i) (sym is) t.1)

      some_image : (i : ContextImage) → carried_image w n ≡ Some i → (b : Bool) → has_word n w.stopped ≡ b → Stays w w'
      some_image i image true stopped =
          let name : i.name ≡ n = named_image n i w.carried image in
          tried i name _ (restore_ends w k n i (record { image = image; name = name; stopped = stopped }))
      some_image i image false stopped = stays_as w w' (is ∙ unstopped (has_device w k) (has_word n w.stopped) _ stopped)

      by : (o : Option ContextImage) → carried_image w n ≡ o → Stays w w'
      by None image = stays_as w w' (is ∙ (ap (λ o. (step.by_refusal w (if not (has_device w k) || not (has_word n w.stopped) then Some refusal.NoSuch else None) (step.restores_image w n k o)).world) image ∙ none (not (has_device w k) || not (has_word n w.stopped))))
      by (Some i) image = some_image i image (has_word n w.stopped) refl

  release_stays : (n : Name) (k : ℕ) → w' ≡ (world_step w (world_event.Release n k)).world → Stays w w'
  release_stays n k is =
      let r : IsReleased w w' = subst (IsReleased w) (sym is) (release_ends w k n) in
      by_place w w' m s
      (λ j c l. known_there w' m' j c s' (ap (has_name (λ z. z.name) c) (r.contexts j) ∙ l))
      (λ c h. known_carried w' c (ap (has_name (λ z. z.name) c) r.carried ∙ h))

step_stays : AreLaws → (w : World) (h : Happening) → IsStep h → IsStanding w → IsStanding (happens w h).world → Stays w (happens w h).world
unfolding happens
step_stays laws w (Event (world_event.Stop n)) is s s' = stop_stays w (happens w (Event (world_event.Stop n))).world s.0 s'.0 s.1 s'.1 n refl
step_stays laws w (Event (world_event.Restore n k)) is s s' = restore_stays w (happens w (Event (world_event.Restore n k))).world s.0 s'.0 s.1 s'.1 n k refl
step_stays laws w (Event (world_event.Release n k)) is s s' = release_stays w (happens w (Event (world_event.Release n k))).world s.0 s'.0 s.1 s'.1 n k refl
step_stays laws w (Event other) is s s' = absurd is
step_stays laws w (Dump n) is s s' = absurd is
step_stays laws w Settles is s s' = kept_stays w (happens w Settles).world s.0 s'.0 s.1 s'.1 (settling_is_kept laws.settling w s.0 s.1)

-- ---- all of them

record IsStayed (w w' : World) : Type 0 where
  stands : IsStanding w'
  stays : Stays w w'

steps_stay : AreLaws → (w : World) (hs : List Happening) → All IsStep hs → IsStanding w → IsStayed w (world_left w hs)
steps_stay laws w [] each s = record { stands = s; stays = λ c known. known }
steps_stay laws w (h ∷ hs) each s =
    let is : IsStep h = All-head IsStep h hs each in
    let s' : IsStanding (happens w h).world = stands_on laws w h (step_within h is) s in
    let rest : IsStayed (happens w h).world (world_left (happens w h).world hs) = steps_stay laws (happens w h).world hs (All-tail IsStep h hs each) s' in
    record { stands = rest.stands; stays = λ c known. rest.stays c (step_stays laws w h is s s' c known) }

all_steps : (w : World) (from : ℕ) (targets : List ℕ) → All IsStep (evacuation w from targets).steps
all_steps w from targets = let l = evacuation_leads w from targets in subst (All IsStep) (sym l.steps) l.each

pub all_followed : AreLaws → EvacuationsAreFollowed
all_followed laws w m from targets s = laws.follow w m (evacuation w from targets).steps (All-weaker IsStep IsWithin step_within (evacuation w from targets).steps (all_steps w from targets)) s

is_named : (w : World) (c : Name) → has_word c (names_of w) ≡ (is_live w c || is_carried w c)
is_named w c = has_name-names c (contexts_of w) ∙ has_context_is w c

pub nothing_lost : AreLaws → NothingIsLost
nothing_lost laws w m from targets prefix back es n s splits each there =
    let steps : All IsStep prefix = all_before IsStep prefix back (subst (All IsStep) splits (all_steps w from targets)) in
    let first : IsStayed w (world_left w prefix) = steps_stay laws w prefix steps (m, s) in
    let v : World = world_left w prefix in
    let m1 : Machine = first.stands.0 in
    let run : FollowsRun v m1 es = laws.settling.follows v m1 es each first.stands.1 in
    let last : Stays v (world_after v es) = kept_stays v (world_after v es) m1 (after m1 (joined_steps run.steps)) first.stands.1 run.stands (events_keep laws.settling v m1 es first.stands.1 each) in
    let known : has_word n (names_of (world_after v es)) ≡ true = is_named (world_after v es) n ∙ last n (first.stays n (sym (is_named w n) ∙ there)) in
    omega (arith, run.stands.placed.once n, present_counted (λ k. k) n (names_of (world_after v es)) known)
