-- The last round of a settling: what no timer was stepped for.
use Rattle.std.proofs.Common.{arith, ◌≡◌, ◌≤◌, ◌⊎◌, ℕ, zero, suc, List, [], ◌∷◌, ◌++◌, map, true, false, Bool, refl, sym, ap, ◌∙◌, subst, inl, inr}
use Rattle.std.specs.Prelude.{All, Contains, Option, Some, None, flat_map, bytes_eq, if◌then◌else◌, ◌==◌, ◌&&◌, ◌||◌, not, nat_lt}
use Rattle.std.proofs.lemmas.Bool.Decides.{nat_tests, eqb_tells}
use Rattle.std.proofs.lemmas.List.Elements.{All-cons, All-nil, All-contains}
use Rattle.rdma_types.specs.declared.names.Name.{Name}
use Rattle.rdma_types.specs.declared.names.ObjName.{ObjName}
use Rattle.rdma_types.specs.Lists.{has_name, named}
use Rattle.protocol.specs.declared.events.Event.TheVariants as events
use Rattle.protocol.specs.declared.events.WorldEvent.TheVariants as world_events
use Rattle.protocol.specs.EndWords.{is_resuming_link, is_running}
use Rattle.protocol.specs.Fabric.{pending}
use Rattle.protocol.specs.State.{World, Context, End, Link, no_context, no_end}
use Rattle.protocol.specs.WorldStep.{world_step}
use Rattle.protocol.specs.Settle.{Settling, settle_step, drained, is_sent, transmit, sending_all, sending_fuel, link_at, sends_all, sends_if_running, visited, visiting, live_names, named_ends, may_step, Waited, last_wait, noting, rnr_by, rnr_visit, has_stepped, expire_by, expire_visit, timers, round, settled}
use Rattle.packetless_machine.specs.Machine.{Machine}
use Rattle.packetless_machine.specs.Legal.{after}
use Rattle.protocol.specs.declared.events.WorldEvent.{WorldEvent}
use Rattle.law_simulation.specs.Law.{AlwaysFollows, joined_steps}
use Rattle.law_settling.specs.Weights.{TakingLightens}
use Rattle.law_settling.proofs.bound.Rounds.{names_stay}
use Rattle.law_simulation.specs.Stands.{Stands}
use Rattle.law_simulation.proofs.relation.Tables.{named-absent, name-named_there}
use Rattle.law_simulation.proofs.sending.GoLive.{ordered_here}
use Rattle.law_settling.specs.Drained.{DrainingDrains}
use Rattle.law_settling.proofs.draining.Pending.{contains_here, contains_later, contains_cases}
use Rattle.law_settling.specs.Settling.{SettlingFollows, SettlingIsEvents}
use Rattle.law_settling.specs.Ends.{Ends, SettlingEnds, after_rounds, is_moving, started}
use Rattle.law_settling.proofs.bound.Lives.{lives, at_end, context_in, link_is, names_are}
use Rattle.law_settling.proofs.bound.Turns.{live_end}
use Rattle.law_settling.specs.Rests.{IsAtRest, SettlingRests}

-- ---- nothing is pending after a visit

module _ (drains : DrainingDrains) where
  abbrev Calm : Settling → Type 0
  Calm s = pending s.world.sent ≡ None

  if_calm : (b : Bool) (s t : Settling) → Calm s → Calm t → Calm (if b then s else t)
  if_calm true s t h k = h
  if_calm false s t h k = k

  sending_by : (b : Bool) (s t : Settling) → Calm s → Calm t → Calm (elim b as (λ x. Settling) [ true ↦ s | false ↦ t ])
  sending_by true s t h k = h
  sending_by false s t h k = k

  sending_calm : (fuel : ℕ) (s : Settling) (o : ObjName) → Calm s → Calm (sending_all fuel s o)
  unfolding sending_all
  sending_calm zero s o h = h
  sending_calm (suc fuel) s o h = sending_by (is_sent (world_step s.world (transmit o)).answer) (sending_all fuel (drained (settle_step s (transmit o))) o) s (sending_calm fuel (drained (settle_step s (transmit o))) o (drains _)) h

  running_calm : (s : Settling) (o : ObjName) → Calm s → Calm (sends_if_running s o)
  unfolding sends_if_running sends_all
  running_calm s o h = if_calm (is_running (link_at s.world o)) (sending_all (sending_fuel (link_at s.world o)) s o) s (sending_calm (sending_fuel (link_at s.world o)) s o h) h

  pub visited_calm : (s : Settling) (o : ObjName) → Calm s → Calm (visited s o)
  unfolding visited
  visited_calm s o h = if_calm (is_resuming_link (link_at s.world o)) (sends_if_running (drained (settle_step s (transmit o))) o) (sends_if_running s o) (running_calm (drained (settle_step s (transmit o))) o (drains _)) (running_calm s o h)

  pub visiting_calm : (os : List ObjName) (s : Settling) → Calm s → Calm (visiting visited s os)
  unfolding visiting
  visiting_calm [] s h = h
  visiting_calm (o ∷ os) s h = visiting_calm os (visited s o) (visited_calm s o h)

-- ---- visits that step nothing

-- a visit leaves the settling as it is, where its test fails, and else steps
abbrev pub IsTimer : (Settling → ObjName → Settling) → (Settling → ObjName → Bool) → Type 0
IsTimer visit test = (s : Settling) (o : ObjName) → ((test s o ≡ false) × (visit s o ≡ s)) ⊎ ((visit s o).stepped ≡ true)

-- what was stepped stays stepped
abbrev pub IsSteady : (Settling → ObjName → Settling) → Type 0
IsSteady visit = (s : Settling) (o : ObjName) → s.stepped ≡ true → (visit s o).stepped ≡ true

stays_stepped : (visit : Settling → ObjName → Settling) → IsSteady visit → (os : List ObjName) (s : Settling) → s.stepped ≡ true → (visiting visit s os).stepped ≡ true
unfolding visiting
stays_stepped visit steady [] s h = h
stays_stepped visit steady (o ∷ os) s h = stays_stepped visit steady os (visit s o) (steady s o h)

-- where none of the visits stepped, all tests failed and nothing happened
pub none_visited : (visit : Settling → ObjName → Settling) (test : Settling → ObjName → Bool) → IsTimer visit test → IsSteady visit → (os : List ObjName) (s : Settling) → (visiting visit s os).stepped ≡ false → (visiting visit s os ≡ s) × All (λ o. test s o ≡ false) os
unfolding visiting
none_visited visit test timer steady [] s h = (refl, All-nil _)
none_visited visit test timer steady (o ∷ os) s h = elim (timer s o) [
  | inr stepped ↦ absurd (cc (h, stays_stepped visit steady os (visit s o) stepped))
  | inl still ↦
      let same : visiting visit (visit s o) os ≡ visiting visit s os = ap (λ z. visiting visit z os) still.1 in
      let rest = none_visited visit test timer steady os s (ap (λ z. z.stepped) (sym same) ∙ h) in
      (same ∙ rest.0, All-cons (λ k. test s k ≡ false) o os still.0 rest.1)
]

-- ---- the two timers

abbrev pub rnr_test_by : Settling → ObjName → Option Link → Bool
rnr_test_by s o None = false
rnr_test_by s o (Some l) = l.sender.rnr_wait && may_step s.world l (last_wait s o)

abbrev pub rnr_test : Settling → ObjName → Bool
rnr_test s o = rnr_test_by s o (link_at s.world o)

abbrev pub expire_test_by : Option Link → Bool
expire_test_by None = false
expire_test_by (Some l) = is_running (Some l) && (not l.sender.rnr_wait && nat_lt l.sender.una l.sender.next)

abbrev pub expire_test : Settling → ObjName → Bool
expire_test s o = expire_test_by (link_at s.world o)

by_if : (b : Bool) (t s : Settling) → t.stepped ≡ true → ((b ≡ false) × ((if b then t else s) ≡ s)) ⊎ ((if b then t else s).stepped ≡ true)
by_if true t s h = inr h
by_if false t s h = inl (refl, refl)

if_steady : (b : Bool) (t s : Settling) → t.stepped ≡ true → s.stepped ≡ true → (if b then t else s).stepped ≡ true
if_steady true t s h k = h
if_steady false t s h k = k

rnr_timer_by : (s : Settling) (o : ObjName) (l : Option Link) → ((rnr_test_by s o l ≡ false) × (rnr_by s o l ≡ s)) ⊎ ((rnr_by s o l).stepped ≡ true)
rnr_timer_by s o None = inl (refl, refl)
rnr_timer_by s o (Some l) = by_if (l.sender.rnr_wait && may_step s.world l (last_wait s o)) (noting s o l (settle_step s (world_events.At (events.RnrOver o)))) s refl

rnr_timer : IsTimer rnr_visit rnr_test
unfolding rnr_visit
rnr_timer s o = rnr_timer_by s o (link_at s.world o)

rnr_steady_by : (s : Settling) (o : ObjName) (l : Option Link) → s.stepped ≡ true → (rnr_by s o l).stepped ≡ true
rnr_steady_by s o None h = h
rnr_steady_by s o (Some l) h = if_steady (l.sender.rnr_wait && may_step s.world l (last_wait s o)) (noting s o l (settle_step s (world_events.At (events.RnrOver o)))) s refl h

rnr_steady : IsSteady rnr_visit
unfolding rnr_visit
rnr_steady s o h = rnr_steady_by s o (link_at s.world o) h

expire_timer_by : (s : Settling) (o : ObjName) (l : Option Link) → ((expire_test_by l ≡ false) × (expire_by s o l ≡ s)) ⊎ ((expire_by s o l).stepped ≡ true)
expire_timer_by s o None = inl (refl, refl)
expire_timer_by s o (Some l) = by_if (is_running (Some l) && (not l.sender.rnr_wait && nat_lt l.sender.una l.sender.next)) (has_stepped (settle_step s (world_events.At (events.Expire o)))) s refl

expire_timer : IsTimer expire_visit expire_test
unfolding expire_visit
expire_timer s o = expire_timer_by s o (link_at s.world o)

expire_steady_by : (s : Settling) (o : ObjName) (l : Option Link) → s.stepped ≡ true → (expire_by s o l).stepped ≡ true
expire_steady_by s o None h = h
expire_steady_by s o (Some l) h = if_steady (is_running (Some l) && (not l.sender.rnr_wait && nat_lt l.sender.una l.sender.next)) (has_stepped (settle_step s (world_events.At (events.Expire o)))) s refl h

expire_steady : IsSteady expire_visit
unfolding expire_visit
expire_steady s o h = expire_steady_by s o (link_at s.world o) h

-- ---- the last round

-- the settling after the visits of a round
abbrev pub visits : Settling → Settling
visits s = visiting visited (drained s) (live_names s.world)

pub record IsLast (s : Settling) : Type 0 where
  pub same : (round s).world ≡ (visits s).world
  pub no_wait : All (λ o. rnr_test (visits s) o ≡ false) (live_names s.world)
  pub no_flight : All (λ o. expire_test (visits s) o ≡ false) (live_names s.world)

module _ (t : Settling) (os : List ObjName) where
  abbrev u : Settling
  u = visiting rnr_visit t os

  record Still (r : Settling) : Type 0 where
    same : r.world ≡ t.world
    no_wait : All (λ o. rnr_test t o ≡ false) os
    no_flight : All (λ o. expire_test t o ≡ false) os

  by_stepped : (b : Bool) → u.stepped ≡ b → (if b then u else visiting expire_visit u os).stepped ≡ false → Still (if b then u else visiting expire_visit u os)
  by_stepped true h k = absurd (cc)
  by_stepped false h k =
      let w = none_visited rnr_visit rnr_test rnr_timer rnr_steady os t h in
      let e = none_visited expire_visit expire_test expire_timer expire_steady os u k in
      record { same = ap (λ z. z.world) (e.0 ∙ w.0); no_wait = w.1; no_flight = subst (λ z. All (λ o. expire_test z o ≡ false) os) w.0 e.1 }

  by_changed : (b : Bool) → t.changed ≡ b → is_moving (if b then t else timers t os) ≡ false → Still (if b then t else timers t os)
  unfolding timers
  by_changed true h k = absurd (cc (or_parts t.changed t.stepped k, h))
    where
      or_parts : (a c : Bool) → (a || c) ≡ false → a ≡ false
      or_parts true c g = absurd (cc)
      or_parts false c g = refl
  by_changed false h k = by_stepped u.stepped refl (or_right (if u.stepped then u else visiting expire_visit u os).changed _ k)
    where
      or_right : (a c : Bool) → (a || c) ≡ false → c ≡ false
      or_right true c g = absurd (cc)
      or_right false c g = g

pub last_round : (s : Settling) → is_moving (round s) ≡ false → IsLast s
unfolding round
last_round s h = let l = by_changed (visits s) (live_names s.world) (visits s).changed refl h in record { same = l.same; no_wait = l.no_wait; no_flight = l.no_flight }

-- ---- a live end is among the names

contains_more : {A : Type 0} (x : A) (xs ys : List A) → Contains xs x → Contains (xs ++ ys) x
contains_more x [] ys h = absurd (omega (arith, h.1))
contains_more x (z ∷ xs) ys h = elim (contains_cases x z xs h) [
  | inl e ↦ subst (λ k. Contains (k ∷ (xs ++ ys)) x) (sym e) (contains_here x (xs ++ ys))
  | inr l ↦ contains_later x z (xs ++ ys) (contains_more x xs ys l)
]

contains_past : {A : Type 0} (x : A) (xs ys : List A) → Contains ys x → Contains (xs ++ ys) x
contains_past x [] ys h = h
contains_past x (z ∷ xs) ys h = contains_later x z (xs ++ ys) (contains_past x xs ys h)

named_there : {A : Type 0} (name : A → Name) (none : A) (n : Name) (xs : List A) → has_name name n xs ≡ true → Contains xs (named name none n xs)
unfolding has_name named
named_there name none n [] h = absurd (cc)
named_there name none n (x ∷ xs) h = by_test (bytes_eq (name x) n) h (named_there name none n xs)
  where
    by_test : (b : Bool) → (b || has_name name n xs) ≡ true → (has_name name n xs ≡ true → Contains xs (named name none n xs)) → Contains (x ∷ xs) (if b then x else named name none n xs)
    by_test true g later = contains_here x xs
    by_test false g later = contains_later (named name none n xs) x xs (later g)

abbrev name_in : Context → End → ObjName
name_in c e = record { context = c.name; name = e.name }

named_in : (c : Context) (e : End) (es : List End) → Contains es e → Contains (map (name_in c) es) (name_in c e)
named_in c e [] h = absurd (omega (arith, h.1))
named_in c e (x ∷ es) h = elim (contains_cases e x es h) [
  | inl a ↦ subst (λ z. Contains (name_in c z ∷ map (name_in c) es) (name_in c e)) (sym a) (contains_here (name_in c e) (map (name_in c) es))
  | inr l ↦ contains_later (name_in c e) (name_in c x) (map (name_in c) es) (named_in c e es l)
]

flat_in : (c : Context) (o : ObjName) (cs : List Context) → Contains cs c → Contains (named_ends c) o → Contains (flat_map named_ends cs) o
flat_in c o [] h k = absurd (omega (arith, h.1))
flat_in c o (x ∷ cs) h k = elim (contains_cases c x cs h) [
  | inl a ↦ contains_more o (named_ends x) (flat_map named_ends cs) (subst (λ z. Contains (named_ends z) o) (sym a) k)
  | inr l ↦ contains_past o (named_ends x) (flat_map named_ends cs) (flat_in c o cs l k)
]

has_by : {A : Type 0} (b : Bool) (name : A → Name) (none : A) (f : A → Option Link) (n : Name) (xs : List A) (l : Link) → has_name name n xs ≡ b → f none ≡ None → f (named name none n xs) ≡ Some l → b ≡ true
has_by true name none f n xs l h empty linked' = refl
has_by false name none f n xs l h empty linked' = absurd (cc (ap f (named-absent name none n xs h), empty, linked'))

pub live_named : (w : World) (o : ObjName) (l : Link) → (at_end w o).link ≡ Some l → Contains (live_names w) o
unfolding named
live_named w o l linked' =
    let c : Context = context_in (lives w) o.context in
    let has_c : has_name (λ z. z.name) o.context (lives w) ≡ true = has_by _ (λ (z : Context). z.name) no_context (λ z. (named (λ e. e.name) no_end o.name z.ends).link) o.context (lives w) l refl refl linked' in
    let has_e : has_name (λ z. z.name) o.name c.ends ≡ true = has_by _ (λ (z : End). z.name) no_end (λ z. z.link) o.name c.ends l refl refl linked' in
    let name_c : c.name ≡ o.context = name-named_there (λ z. z.name) no_context o.context (lives w) has_c in
    let name_e : (at_end w o).name ≡ o.name = name-named_there (λ z. z.name) no_end o.name c.ends has_e in
    let here : Contains (named_ends c) (name_in c (at_end w o)) = named_in c (at_end w o) c.ends (named_there (λ z. z.name) no_end o.name c.ends has_e) in
    let is : Contains (named_ends c) o = subst (Contains (named_ends c)) (λ i. record { context = name_c i; name = name_e i }) here in
    subst (λ ns. Contains ns o) (sym (names_are w)) (flat_in c o (lives w) (named_there (λ z. z.name) no_context o.context (lives w) has_c) is)

-- ---- what the tests say

pub waits_endless : (s : Settling) (l : Link) (x : Option Waited) → (l.sender.rnr_wait && may_step s.world l x) ≡ false → l.sender.rnr_wait ≡ true → (l.terms.rnr == 7) ≡ true
waits_endless s l None h wait = absurd (by_test l.sender.rnr_wait wait h)
  where
    by_test : (b : Bool) → b ≡ true → (b && true) ≡ false → ⊥
    by_test true t g = absurd (cc)
    by_test false t g = absurd (cc)
waits_endless s l (Some x) h wait = by_tests l.sender.rnr_wait (l.terms.rnr == 7) _ wait h
  where
    by_tests : (b c d : Bool) → b ≡ true → (b && (not c || d)) ≡ false → c ≡ true
    by_tests true true d t g = refl
    by_tests true false d t g = absurd (cc)
    by_tests false c d t g = absurd (cc)

pub nothing_flies : (r a b : Bool) → (r && (not a && b)) ≡ false → r ≡ true → a ≡ false → b ≡ false
nothing_flies true false b g h k = g
nothing_flies true true b g h k = absurd (cc)
nothing_flies false a b g h k = absurd (cc)

endless_by : (t : Settling) (o : ObjName) (l : Link) → link_at t.world o ≡ Some l → rnr_test t o ≡ false → l.sender.rnr_wait ≡ true → l.terms.rnr ≡ 7
endless_by t o l h none wait =
    let test : (l.sender.rnr_wait && may_step t.world l (last_wait t o)) ≡ false = sym (ap (rnr_test_by t o) h) ∙ none in
    seven l.terms.rnr (waits_endless t l (last_wait t o) test wait)
  where
    seven : (n : ℕ) → (n == 7) ≡ true → n ≡ 7
    seven n g = grind (arith, nat_tests, eqb_tells n 7, g)

landed_by : (t : Settling) (o : ObjName) (l : Link) → link_at t.world o ≡ Some l → expire_test t o ≡ false → is_running (Some l) ≡ true → l.sender.rnr_wait ≡ false → nat_lt l.sender.una l.sender.next ≡ false
landed_by t o l h none running wait = nothing_flies (is_running (Some l)) l.sender.rnr_wait (nat_lt l.sender.una l.sender.next) (sym (ap expire_test_by h) ∙ none) running wait

-- ---- the whole

-- the world after the visits of the last round
module _ (v : World) (m : Machine) (s : Stands v m) (o : ObjName) (l : Link) (at : (at_end v o).link ≡ Some l) (running : is_running (Some l) ≡ true) where
  flown : l.sender.rnr_wait ≡ false → nat_lt l.sender.una l.sender.next ≡ false → l.sender.next ≡ l.sender.una
  flown wait t =
      let most : l.sender.next ≤ l.sender.una = grind (arith, nat_tests, t) in
      omega (arith, most, (ordered_here v m o l s (live_end v m o l s at)).una_next)

pub rests : TakingLightens → ((e : WorldEvent) → AlwaysFollows e) → SettlingEnds → DrainingDrains → SettlingIsEvents → SettlingFollows → SettlingRests
rests lightens follows_each ends drains made follows w m s =
    let e : Ends w = ends w m s in
    let t : Settling = after_rounds e.n (started w) in
    let l : IsLast t = last_round t e.still in
    let v : World = (visits t).world in
    let is : (settled w).world ≡ v = ap (λ z. z.world) e.settled ∙ l.same in
    let run = follows w m (made w).events (made w).each s in
    let stands : Stands v (after m (joined_steps run.steps)) = subst (λ z. Stands z (after m (joined_steps run.steps))) ((made w).after ∙ is) run.stands in
    let names : live_names v ≡ live_names t.world = names_stay drains lightens follows_each w m s e.n in
    let there = λ (o : ObjName) (k : Link) (h : (at_end v o).link ≡ Some k). subst (λ ns. Contains ns o) names (live_named v o k h) in
    subst IsAtRest (sym is) (record {
      drained = visiting_calm drains (live_names t.world) (drained t) (drains t);
      endless = λ o k h running wait. endless_by (visits t) o k h (All-contains (λ n. rnr_test (visits t) n ≡ false) (live_names t.world) o l.no_wait (there o k (sym (link_is v o) ∙ h))) wait;
      landed = λ o k h running wait. flown v (after m (joined_steps run.steps)) stands o k (sym (link_is v o) ∙ h) running wait (landed_by (visits t) o k h (All-contains (λ n. expire_test (visits t) n ≡ false) (live_names t.world) o l.no_flight (there o k (sym (link_is v o) ∙ h))) running wait);
    })
