-- Where nothing changes in a round: what its steps leave of the marks of all ends.
use Rattle.std.proofs.Common.{arith, ◌≡◌, ℕ, zero, suc, List, [], ◌∷◌, map, true, false, Bool, refl, sym, ap, ◌∙◌, inl, inr, subst}
use Rattle.std.specs.Prelude.{Contains, Option, Some, None, if◌then◌else◌, ◌==◌, ◌&&◌, ◌||◌, not, nat_lt}
use Rattle.std.proofs.lemmas.Bool.Decides.{nat_tests, eqb_tells}
use Rattle.rdma_types.specs.declared.names.ObjName.{ObjName}
use Rattle.protocol.specs.declared.events.Event.TheVariants as events
use Rattle.protocol.specs.declared.events.WorldEvent.{WorldEvent}
use Rattle.protocol.specs.declared.events.WorldEvent.TheVariants as world_events
use Rattle.protocol.specs.EndWords.{is_resuming_link, is_running}
use Rattle.protocol.specs.Fabric.{pending_numbers}
use Rattle.protocol.specs.State.{World, Link}
use Rattle.protocol.specs.WorldStep.{world_step}
use Rattle.protocol.specs.Settle.{Mark, Settling, begun, delivering, drained, expire_by, expire_visit, has_stepped, is_sent, last_wait, link_at, live_names, mark_of, marks, may_step, noting, pass, rnr_by, rnr_visit, round, same_marks, sending_all, sending_fuel, sends_all, sends_if_running, settle_step, stepped_to, timers, transmit, visited, visiting}
use Rattle.packetless_machine.specs.Machine.{Machine}
use Rattle.packetless_machine.specs.Legal.{after}
use Rattle.law_simulation.specs.Law.{AlwaysFollows, Follows, IsInRange}
use Rattle.law_simulation.specs.Stands.{Stands}
use Rattle.law_settling.proofs.draining.Pending.{contains_cases}
use Rattle.law_settling.specs.Weights.{TakingLightens, same_mark}
use Rattle.law_settling.specs.Ends.{after_rounds}
use Rattle.law_settling.proofs.bound.Lives.{at_end, AllGoOn, LinkGoesOn}
use Rattle.law_settling.proofs.bound.Delivering.{delivered_go}
use Rattle.law_settling.proofs.bound.Turns.{transmit_turns}
use Rattle.law_settling.proofs.bound.Sums.{marks_listed}
use Rattle.law_settling.proofs.at_rest.Resting.{live_named}

-- ---- equal marks

and_parts : (a b : Bool) → (a && b) ≡ true → (a ≡ true) × (b ≡ true)
and_parts true true h = (refl, refl)
and_parts true false h = absurd (cc)
and_parts false b h = absurd (cc)

number_is : (a b : ℕ) → (a == b) ≡ true → a ≡ b
number_is a b h = grind (arith, nat_tests, eqb_tells a b, h)

each_marked : {A : Type 0} (f g : A → Mark) (xs : List A) → same_marks (map f xs) (map g xs) ≡ true → (x : A) → Contains xs x → same_mark (f x) (g x) ≡ true
unfolding same_marks
each_marked f g [] h x c = absurd (omega (arith, c.1))
each_marked f g (y ∷ ys) h x c =
    let p = and_parts (same_mark (f y) (g y)) (same_marks (map f ys) (map g ys)) h in
    elim (contains_cases x y ys c) [
      | inl e ↦ subst (λ z. same_mark (f z) (g z) ≡ true) e p.0
      | inr later ↦ each_marked f g ys p.1 x later
    ]

-- ---- links with the same marks

-- an end is as it was, as far as a round is watched: its state, its terms and how often it moved
abbrev pub IsStillLink : Option Link → Option Link → Type 0
IsStillLink None None = Unit {0}
IsStillLink (Some l) (Some l') = (l'.terms ≡ l.terms) × (l'.moving.own ≡ l.moving.own) × ((mark_of (Some l')).state ≡ (mark_of (Some l)).state)
IsStillLink None (Some l) = ⊥
IsStillLink (Some l) None = ⊥

still_same_link : (a : Option Link) → IsStillLink a a
still_same_link None = tt
still_same_link (Some l) = (refl, refl, refl)

still_on_link : (a b c : Option Link) → IsStillLink a b → IsStillLink b c → IsStillLink a c
still_on_link None None None h k = tt
still_on_link (Some l) (Some l') (Some l'') h k = (k.0 ∙ h.0, k.1 ∙ h.1, k.2 ∙ h.2)
still_on_link None (Some l') c h k = absurd h
still_on_link None None (Some l) h k = absurd k
still_on_link (Some l) None c h k = absurd h
still_on_link (Some l) (Some l') None h k = absurd k

-- all ends are as they were
abbrev pub IsStill : World → World → Type 0
IsStill w w' = (o : ObjName) → IsStillLink (at_end w o).link (at_end w' o).link

pub still_same : (w : World) → IsStill w w
still_same w o = still_same_link (at_end w o).link

pub still_on : (a b c : World) → IsStill a b → IsStill b c → IsStill a c
still_on a b c h k o = still_on_link (at_end a o).link (at_end b o).link (at_end c o).link (h o) (k o)

-- a link that is there now was there before
still_before_link : (a b : Option Link) (l' : Link) → IsStillLink a b → b ≡ Some l' → (l : Link) × (a ≡ Some l) × IsStillLink (Some l) (Some l')
still_before_link None None l' h is = absurd (cc)
still_before_link (Some l) (Some k) l' h is = (l, refl, subst (IsStillLink (Some l)) is h)
still_before_link None (Some l) l' h is = absurd h
still_before_link (Some l) None l' h is = absurd h

pub still_before : (w w' : World) (o : ObjName) (l' : Link) → IsStill w w' → (at_end w' o).link ≡ Some l' → (l : Link) × ((at_end w o).link ≡ Some l) × IsStillLink (Some l) (Some l')
still_before w w' o l' h is = still_before_link (at_end w o).link (at_end w' o).link l' (h o) is

-- ---- a step that changes no mark

still_link : (k : ℕ) (N : Type 0) (a b : Option Link) → LinkGoesOn k N a b → ((l : Link) → a ≡ Some l → same_mark (mark_of a) (mark_of b) ≡ true) → IsStillLink a b
still_link k N None None g h = tt
still_link k N (Some l) (Some l') g h = (g.terms, g.own, sym (number_is (mark_of (Some l)).state (mark_of (Some l')).state (and_parts ((mark_of (Some l)).una == (mark_of (Some l')).una) _ (h l refl)).1))
still_link k N None (Some l) g h = absurd g
still_link k N (Some l) None g h = absurd g

module _ (K : ℕ → ℕ) (N : Type 0) (w w' : World) (m m' : Machine) (s : Stands w m) (s' : Stands w' m') (go : AllGoOn K N w w') (same : same_marks (marks w) (marks w') ≡ true) where
  listed_now : marks w' ≡ map (λ o. mark_of (at_end w' o).link) (live_names w)
  listed_now = marks_listed w' m' s' ∙ ap (map (λ o. mark_of (at_end w' o).link)) go.names

  marked : (o : ObjName) (l : Link) → (at_end w o).link ≡ Some l → same_mark (mark_of (at_end w o).link) (mark_of (at_end w' o).link) ≡ true
  marked o l at = each_marked (λ z. mark_of (at_end w z).link) (λ z. mark_of (at_end w' z).link) (live_names w) ((λ i. same_marks (sym (marks_listed w m s) i) (sym listed_now i)) ∙ same) o (live_named w o l at)

  pub still_step : IsStill w w'
  still_step o = still_link (K (at_end w o).number) N (at_end w o).link (at_end w' o).link (go.links o) (marked o)

-- ---- steps of a settling

-- the world stands for some state of the machine
abbrev pub Followed : World → Type 0
Followed w = (m : Machine) × Stands w m

-- a settling goes on from s to t: where nothing changed until t, nothing changed until s, and all ends are as they were
pub record Runs (s t : Settling) : Type 0 where
  pub followed : Followed t.world
  pub still : t.changed ≡ false → (s.changed ≡ false) × IsStill s.world t.world

pub runs_same : (s : Settling) → Followed s.world → Runs s s
runs_same s f = record { followed = f; still = λ h. (h, still_same s.world) }

pub runs_on : (s t u : Settling) → Runs s t → Runs t u → Runs s u
runs_on s t u a b = record {
  followed = b.followed;
  still = λ h.
      let k = b.still h in
      let j = a.still k.0 in
      (j.0, still_on s.world t.world u.world j.1 k.1);
}

changed_parts : (a b : Bool) → (a || not b) ≡ false → (a ≡ false) × (b ≡ true)
changed_parts false true h = (refl, refl)
changed_parts true b h = absurd (cc)
changed_parts false false h = absurd (cc)

some_link : (a b : Link) → Some a ≡ Some b → a ≡ b
some_link a b h = cc

module _ (lightens : TakingLightens) (follows : (e : WorldEvent) → AlwaysFollows e) where
  pub step_followed : (w : World) (e : WorldEvent) → IsInRange e → Followed w → Followed (world_step w e).world
  step_followed w e range f = let g : Follows w f.0 e = follows e w f.0 range f.1 in (after f.0 g.steps, g.stands)

  step_runs : (s : Settling) (e : WorldEvent) (K : ℕ → ℕ) (N : Type 0) (f : Followed s.world) → IsInRange e → AllGoOn K N s.world (world_step s.world e).world → Runs s (settle_step s e)
  unfolding settle_step stepped_to
  step_runs s e K N f range go =
      let g : Followed (world_step s.world e).world = step_followed s.world e range f in
      record {
        followed = g;
        still = λ h.
            let p = changed_parts s.changed (same_marks (marks s.world) (marks (world_step s.world e).world)) h in
            (p.0, still_step K N s.world (world_step s.world e).world f.0 g.0 f.1 g.1 go p.1);
      }

  pub deliver_runs : (s : Settling) (k : ℕ) → Followed s.world → Runs s (settle_step s (world_events.Deliver k))
  deliver_runs s k f = step_runs s (world_events.Deliver k) (λ n. 0) _ f tt (delivered_go lightens (λ n. 0) s.world f.0 k f.1)

  pub transmit_runs : (s : Settling) (o : ObjName) → Followed s.world → Runs s (settle_step s (transmit o))
  transmit_runs s o f = by_link (at_end s.world o).link refl
    where
      by_link : (r : Option Link) → (at_end s.world o).link ≡ r → Runs s (settle_step s (transmit o))
      by_link None at = step_runs s (transmit o) (λ n. 0) (Unit {0}) f tt (transmit_turns (λ n. 0) s.world f.0 o f.1 (λ k t. absurd (cc (t, at)))).goes
      by_link (Some l) at = step_runs s (transmit o) (λ n. l.moving.own) (Unit {0}) f tt (transmit_turns (λ n. l.moving.own) s.world f.0 o f.1 (λ k t. ap (λ z. z.moving.own) (some_link k l (sym t ∙ at)))).goes

  delivering_runs : (ks : List ℕ) (s : Settling) → Followed s.world → Runs s (delivering s ks)
  unfolding delivering
  delivering_runs [] s f = runs_same s f
  delivering_runs (k ∷ ks) s f =
      let one : Runs s (settle_step s (world_events.Deliver k)) = deliver_runs s k f in
      runs_on s (settle_step s (world_events.Deliver k)) (delivering (settle_step s (world_events.Deliver k)) ks) one (delivering_runs ks (settle_step s (world_events.Deliver k)) one.followed)

  pub pass_runs : (s : Settling) → Followed s.world → Runs s (pass s)
  pass_runs s f = delivering_runs (pending_numbers s.world.sent) s f

  pub drained_runs : (s : Settling) → Followed s.world → Runs s (drained s)
  unfolding drained
  drained_runs s f =
      let one : Runs s (pass s) = pass_runs s f in
      let two : Runs (pass s) (pass (pass s)) = pass_runs (pass s) one.followed in
      runs_on s (pass s) (pass (pass (pass s))) one (runs_on (pass s) (pass (pass s)) (pass (pass (pass s))) two (pass_runs (pass (pass s)) two.followed))

  -- an end transmits, and what comes of it is drained
  pub sent_runs : (s : Settling) (o : ObjName) → Followed s.world → Runs s (drained (settle_step s (transmit o)))
  sent_runs s o f =
      let one : Runs s (settle_step s (transmit o)) = transmit_runs s o f in
      runs_on s (settle_step s (transmit o)) (drained (settle_step s (transmit o))) one (drained_runs (settle_step s (transmit o)) one.followed)

  sending_by : (b : Bool) (s t u : Settling) → Runs s t → Runs s u → Runs s (elim b as (λ x. Settling) [ true ↦ t | false ↦ u ])
  sending_by true s t u h k = h
  sending_by false s t u h k = k

  if_runs : (b : Bool) (s t u : Settling) → Runs s t → Runs s u → Runs s (if b then t else u)
  if_runs true s t u h k = h
  if_runs false s t u h k = k

  pub sending_runs : (fuel : ℕ) (s : Settling) (o : ObjName) → Followed s.world → Runs s (sending_all fuel s o)
  unfolding sending_all
  sending_runs zero s o f = runs_same s f
  sending_runs (suc fuel) s o f =
      let one : Runs s (drained (settle_step s (transmit o))) = sent_runs s o f in
      sending_by (is_sent (world_step s.world (transmit o)).answer) s (sending_all fuel (drained (settle_step s (transmit o))) o) s
      (runs_on s (drained (settle_step s (transmit o))) (sending_all fuel (drained (settle_step s (transmit o))) o) one (sending_runs fuel (drained (settle_step s (transmit o))) o one.followed)) (runs_same s f)

  pub running_runs : (s : Settling) (o : ObjName) → Followed s.world → Runs s (sends_if_running s o)
  unfolding sends_if_running sends_all
  running_runs s o f = if_runs (is_running (link_at s.world o)) s (sending_all (sending_fuel (link_at s.world o)) s o) s (sending_runs (sending_fuel (link_at s.world o)) s o f) (runs_same s f)

  pub visited_runs : (s : Settling) (o : ObjName) → Followed s.world → Runs s (visited s o)
  unfolding visited
  visited_runs s o f =
      let one : Runs s (drained (settle_step s (transmit o))) = sent_runs s o f in
      if_runs (is_resuming_link (link_at s.world o)) s (sends_if_running (drained (settle_step s (transmit o))) o) (sends_if_running s o)
      (runs_on s (drained (settle_step s (transmit o))) (sends_if_running (drained (settle_step s (transmit o))) o) one (running_runs (drained (settle_step s (transmit o))) o one.followed)) (running_runs s o f)

  pub visits_run : (os : List ObjName) (s : Settling) → Followed s.world → Runs s (visiting visited s os)
  unfolding visiting
  visits_run [] s f = runs_same s f
  visits_run (o ∷ os) s f =
      let one : Runs s (visited s o) = visited_runs s o f in
      runs_on s (visited s o) (visiting visited (visited s o) os) one (visits_run os (visited s o) one.followed)

  -- ---- the world stands after each round

  if_followed : (b : Bool) (s t : Settling) → Followed s.world → Followed t.world → Followed (if b then s else t).world
  if_followed true s t h k = h
  if_followed false s t h k = k

  timed : (visit : Settling → ObjName → Settling) → ((s : Settling) (o : ObjName) → Followed s.world → Followed (visit s o).world) → (os : List ObjName) (s : Settling) → Followed s.world → Followed (visiting visit s os).world
  unfolding visiting
  timed visit each [] s f = f
  timed visit each (o ∷ os) s f = timed visit each os (visit s o) (each s o f)

  rnr_followed : (s : Settling) (o : ObjName) → Followed s.world → Followed (rnr_visit s o).world
  unfolding rnr_visit settle_step stepped_to
  rnr_followed s o f = by_link (link_at s.world o)
    where
      by_link : (r : Option Link) → Followed (rnr_by s o r).world
      by_link None = f
      by_link (Some l) = if_followed (l.sender.rnr_wait && may_step s.world l (last_wait s o)) (noting s o l (settle_step s (world_events.At (events.RnrOver o)))) s (step_followed s.world (world_events.At (events.RnrOver o)) tt f) f

  expire_followed : (s : Settling) (o : ObjName) → Followed s.world → Followed (expire_visit s o).world
  unfolding expire_visit settle_step stepped_to
  expire_followed s o f = by_link (link_at s.world o)
    where
      by_link : (r : Option Link) → Followed (expire_by s o r).world
      by_link None = f
      by_link (Some l) = if_followed (is_running (Some l) && (not l.sender.rnr_wait && nat_lt l.sender.una l.sender.next)) (has_stepped (settle_step s (world_events.At (events.Expire o)))) s (step_followed s.world (world_events.At (events.Expire o)) tt f) f

  round_followed : (s : Settling) → Followed s.world → Followed (round s).world
  unfolding round timers
  round_followed s f =
      let os : List ObjName = live_names s.world in
      let t : Settling = visiting visited (drained s) os in
      let u : Settling = visiting rnr_visit t os in
      let f' : Followed t.world = (visits_run os (drained s) (drained_runs s f).followed).followed in
      let f'' : Followed u.world = timed rnr_visit rnr_followed os t f' in
      if_followed t.changed t (if u.stepped then u else visiting expire_visit u os) f' (if_followed u.stepped u (visiting expire_visit u os) f'' (timed expire_visit expire_followed os u f''))

  pub rounds_followed : (n : ℕ) (s : Settling) → Followed s.world → Followed (after_rounds n s).world
  unfolding after_rounds
  rounds_followed zero s f = f
  rounds_followed (suc n) s f = rounds_followed n (begun (round s)) (round_followed s f)
