-- Settling is made of steps of the world: what each step keeps, settling keeps.
use Rattle.std.proofs.Common.{◌≡◌, ◌+◌, ℕ, zero, suc, List, [], ◌∷◌, ◌++◌, true, false, Bool, refl, ap, ◌∙◌}
use Rattle.std.specs.Prelude.{Option, Some, None, not, ◌&&◌, ◌||◌, ◌*◌, nat_lt, if◌then◌else◌}
use Rattle.std.proofs.lemmas.List.Elements.{All-nil, All-push}
use Rattle.rdma_types.specs.declared.names.ObjName.{ObjName}
use Rattle.protocol.specs.declared.events.Event.TheVariants as events
use Rattle.protocol.specs.declared.events.WorldEvent.{WorldEvent}
use Rattle.protocol.specs.declared.events.WorldEvent.TheVariants as world_events
use Rattle.protocol.specs.EndWords.{is_resuming_link, is_running}
use Rattle.protocol.specs.State.{World, Link}
use Rattle.protocol.specs.WorldStep.{world_step, world_after}
use Rattle.protocol.specs.Settle.{Settling, Settled, settled, settle_step, stepped_to, delivering, pass, drained, is_sent, transmit, sending_all, sending_fuel, link_at, sends_all, sends_if_running, visited, visiting, live_names, may_step, last_wait, noting, rnr_by, rnr_visit, has_stepped, expire_by, expire_visit, timers, round, begun, rounds_of, load_of}
use Rattle.law_settling.specs.Settling.{IsSettling, ComesOf, SettlingIsEvents}

module _ (P : World → Type 0) (step : (w : World) (e : WorldEvent) → IsSettling e → P w → P (world_step w e).world) where
  -- the world of a settling has P
  abbrev Q : Settling → Type 0
  Q s = P s.world

  if_Q : (b : Bool) (s t : Settling) → Q s → Q t → Q (if b then s else t)
  if_Q true s t h k = h
  if_Q false s t h k = k

  one : (s : Settling) (e : WorldEvent) → IsSettling e → Q s → Q (settle_step s e)
  unfolding settle_step stepped_to
  one s e is h = step s.world e is h

  delivering_keeps : (ks : List ℕ) (s : Settling) → Q s → Q (delivering s ks)
  unfolding delivering
  delivering_keeps [] s h = h
  delivering_keeps (k ∷ ks) s h = delivering_keeps ks (settle_step s (world_events.Deliver k)) (one s (world_events.Deliver k) tt h)

  drained_keeps : (s : Settling) → Q s → Q (drained s)
  unfolding drained
  drained_keeps s h = delivering_keeps _ (pass (pass s)) (delivering_keeps _ (pass s) (delivering_keeps _ s h))

  sending_by : (b : Bool) (s t : Settling) → Q s → Q t → Q (elim b as (λ x. Settling) [ true ↦ s | false ↦ t ])
  sending_by true s t h k = h
  sending_by false s t h k = k

  sending_keeps : (fuel : ℕ) (s : Settling) (o : ObjName) → Q s → Q (sending_all fuel s o)
  unfolding sending_all
  sending_keeps zero s o h = h
  sending_keeps (suc fuel) s o h =
      sending_by (is_sent (world_step s.world (transmit o)).answer) (sending_all fuel (drained (settle_step s (transmit o))) o) s
      (sending_keeps fuel (drained (settle_step s (transmit o))) o (drained_keeps _ (one s (transmit o) tt h))) h

  running_keeps : (s : Settling) (o : ObjName) → Q s → Q (sends_if_running s o)
  unfolding sends_if_running sends_all
  running_keeps s o h = if_Q (is_running (link_at s.world o)) _ s (sending_keeps (sending_fuel (link_at s.world o)) s o h) h

  visited_keeps : (s : Settling) (o : ObjName) → Q s → Q (visited s o)
  unfolding visited
  visited_keeps s o h = if_Q (is_resuming_link (link_at s.world o)) _ _ (running_keeps (drained (settle_step s (transmit o))) o (drained_keeps _ (one s (transmit o) tt h))) (running_keeps s o h)

  visiting_keeps : (visit : Settling → ObjName → Settling) → ((s : Settling) (o : ObjName) → Q s → Q (visit s o)) → (os : List ObjName) (s : Settling) → Q s → Q (visiting visit s os)
  unfolding visiting
  visiting_keeps visit each [] s h = h
  visiting_keeps visit each (o ∷ os) s h = visiting_keeps visit each os (visit s o) (each s o h)

  rnr_keeps : (s : Settling) (o : ObjName) (l : Option Link) → Q s → Q (rnr_by s o l)
  rnr_keeps s o None h = h
  rnr_keeps s o (Some l) h = if_Q (l.sender.rnr_wait && may_step s.world l (last_wait s o)) (noting s o l (settle_step s (world_events.At (events.RnrOver o)))) s (one s (world_events.At (events.RnrOver o)) tt h) h

  rnr_visit_keeps : (s : Settling) (o : ObjName) → Q s → Q (rnr_visit s o)
  unfolding rnr_visit
  rnr_visit_keeps s o h = rnr_keeps s o (link_at s.world o) h

  expire_keeps : (s : Settling) (o : ObjName) (l : Option Link) → Q s → Q (expire_by s o l)
  expire_keeps s o None h = h
  expire_keeps s o (Some l) h = if_Q (is_running (Some l) && (not l.sender.rnr_wait && nat_lt l.sender.una l.sender.next)) (has_stepped (settle_step s (world_events.At (events.Expire o)))) s (one s (world_events.At (events.Expire o)) tt h) h

  expire_visit_keeps : (s : Settling) (o : ObjName) → Q s → Q (expire_visit s o)
  unfolding expire_visit
  expire_visit_keeps s o h = expire_keeps s o (link_at s.world o) h

  timers_keep : (s : Settling) (os : List ObjName) → Q s → Q (timers s os)
  unfolding timers
  timers_keep s os h =
      let t : Settling = visiting rnr_visit s os in
      let k : Q t = visiting_keeps rnr_visit rnr_visit_keeps os s h in
      if_Q t.stepped t (visiting expire_visit t os) k (visiting_keeps expire_visit expire_visit_keeps os t k)

  round_keeps : (s : Settling) → Q s → Q (round s)
  unfolding round
  round_keeps s h =
      let os : List ObjName = live_names s.world in
      let t : Settling = visiting visited (drained s) os in
      let k : Q t = visiting_keeps visited visited_keeps os (drained s) (drained_keeps s h) in
      if_Q t.changed t (timers t os) k (timers_keep t os k)

  rounds_by : (b : Bool) (s t : Settled) → P s.world → P t.world → P (elim b as (λ x. Settled) [ true ↦ s | false ↦ t ]).world
  rounds_by true s t h k = h
  rounds_by false s t h k = k

  rounds_keep : (fuel n : ℕ) (s : Settling) → Q s → P (rounds_of fuel n s).world
  unfolding rounds_of
  rounds_keep zero n s h = h
  rounds_keep (suc fuel) n s h =
      let r : Settling = round s in
      rounds_by (r.changed || r.stepped) (rounds_of fuel (n + 1) (begun r)) (record { world = r.world; rounds = n + 1 }) (rounds_keep fuel (n + 1) (begun r) (round_keeps s h)) (round_keeps s h)

  pub settled_keeps : (w : World) → P w → P (settled w).world
  unfolding settled
  settled_keeps w h = rounds_keep (32 * load_of w) 0 (record { world = w; changed = false; stepped = false; waited = [] }) h

after_push : (w : World) (es : List WorldEvent) (e : WorldEvent) → world_after w (es ++ e ∷ []) ≡ (world_step (world_after w es) e).world
unfolding world_after
after_push w [] e = refl
after_push w (x ∷ es) e = after_push (world_step w x).world es e

pub one_more : (w w' : World) (e : WorldEvent) → IsSettling e → ComesOf w w' → ComesOf w (world_step w' e).world
one_more w w' e is c = record {
  events = c.events ++ e ∷ [];
  each = All-push IsSettling c.events e c.each is;
  after = after_push w c.events e ∙ ap (λ v. (world_step v e).world) c.after;
}

nothing_after : (w : World) → world_after w [] ≡ w
unfolding world_after
nothing_after w = refl

pub made : SettlingIsEvents
made w = settled_keeps (ComesOf w) (one_more w) w (record { events = []; each = All-nil IsSettling; after = nothing_after w })
