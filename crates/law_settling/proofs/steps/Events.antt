-- Settling is made of the events that are named.
use Rattle.std.proofs.Common.{◌≡◌, ◌+◌, ◌*◌, ℕ, zero, suc, List, [], ◌∷◌, ◌++◌, map, true, false, Bool, refl, ap, ◌∙◌}
use Rattle.std.specs.Prelude.{All, Option, Some, None, not, ◌&&◌, ◌||◌, nat_lt, if◌then◌else◌}
use Rattle.std.proofs.lemmas.List.Elements.{All-append, All-cons, All-nil, All-weaker}
use Rattle.rdma_types.specs.declared.names.ObjName.{ObjName}
use Rattle.protocol.specs.declared.events.Event.TheVariants as events
use Rattle.protocol.specs.declared.events.WorldEvent.{WorldEvent}
use Rattle.protocol.specs.declared.events.WorldEvent.TheVariants as world_events
use Rattle.protocol.specs.EndWords.{is_resuming_link, is_running}
use Rattle.protocol.specs.Fabric.{pending_numbers}
use Rattle.protocol.specs.State.{World, Link}
use Rattle.protocol.specs.WorldStep.{world_step, world_after}
use Rattle.protocol.specs.Settle.{Settled, Settling, begun, delivering, drained, expire_by, expire_visit, has_stepped, is_sent, last_wait, link_at, live_names, load_of, may_step, noting, pass, rnr_by, rnr_visit, round, rounds_of, sending_all, sending_fuel, sends_all, sends_if_running, settle_step, settled, stepped_to, timers, transmit, visited, visiting}
use Rattle.law_simulation.specs.Named.{RunsFollowByName}
use Rattle.law_settling.specs.Ends.{started}
use Rattle.law_settling.specs.Events.{drain_events, expire_events, expire_events_by, rnr_events, rnr_events_by, round_events, rounds_events, running_events, send_all_events, send_events, sending_events, settling_events, timer_events, visit_events, visiting_events}
use Rattle.law_settling.specs.Settling.{IsSettling, SettlingFollowsByName, SettlingHasEvents}
use Rattle.law_settling.proofs.steps.Following.{in_range}

-- events of settling lead from one world to another
pub record Lead (w : World) (es : List WorldEvent) (w' : World) : Type 0 where
  pub each : All IsSettling es
  pub after : world_after w es ≡ w'

pub after_all : (w : World) (es fs : List WorldEvent) → world_after w (es ++ fs) ≡ world_after (world_after w es) fs
unfolding world_after
after_all w [] fs = refl
after_all w (e ∷ es) fs = after_all (world_step w e).world es fs

pub none_lead : (w : World) → Lead w [] w
unfolding world_after
none_lead w = record { each = All-nil IsSettling; after = refl }

pub then_lead : {w1 w2 w3 : World} {es fs : List WorldEvent} → Lead w1 es w2 → Lead w2 fs w3 → Lead w1 (es ++ fs) w3
then_lead {w1} {w2} {w3} {es} {fs} a b = record {
  each = All-append IsSettling es fs a.each b.each;
  after = after_all w1 es fs ∙ (ap (λ w. world_after w fs) a.after ∙ b.after);
}

-- one event, and others
pub step_lead : (s : Settling) (e : WorldEvent) (es : List WorldEvent) (w : World) → IsSettling e → Lead (settle_step s e).world es w → Lead s.world (e ∷ es) w
unfolding world_after settle_step stepped_to
step_lead s e es w is a = record { each = All-cons IsSettling e es is a.each; after = a.after }

pub one_lead : (s : Settling) (e : WorldEvent) → IsSettling e → Lead s.world (e ∷ []) (settle_step s e).world
one_lead s e is = step_lead s e [] (settle_step s e).world is (none_lead (settle_step s e).world)

if_lead : (b : Bool) (w : World) (es fs : List WorldEvent) (s t : Settling) → Lead w es s.world → Lead w fs t.world → Lead w (if b then es else fs) (if b then s else t).world
if_lead true w es fs s t h k = h
if_lead false w es fs s t h k = k

-- ---- draining

pub delivering_lead : (ks : List ℕ) (s : Settling) → Lead s.world (map (λ k. world_events.Deliver k) ks) (delivering s ks).world
unfolding delivering
delivering_lead [] s = none_lead s.world
delivering_lead (k ∷ ks) s = step_lead s (world_events.Deliver k) _ _ tt (delivering_lead ks (settle_step s (world_events.Deliver k)))

pub drained_lead : (s : Settling) → Lead s.world (drain_events s) (drained s).world
unfolding drained drain_events
drained_lead s = then_lead (delivering_lead (pending_numbers s.world.sent) s) (then_lead (delivering_lead (pending_numbers (pass s).world.sent) (pass s)) (delivering_lead (pending_numbers (pass (pass s)).world.sent) (pass (pass s))))

-- ---- sending

pub send_lead : (s : Settling) (o : ObjName) → Lead s.world (send_events s o) (drained (settle_step s (transmit o))).world
send_lead s o = step_lead s (transmit o) _ _ tt (drained_lead (settle_step s (transmit o)))

sent_lead : (b : Bool) (w : World) (es : List WorldEvent) (s t : Settling) → Lead w es s.world → Lead w [] t.world → Lead w (elim b as (λ x. List WorldEvent) [ true ↦ es | false ↦ [] ]) (elim b as (λ x. Settling) [ true ↦ s | false ↦ t ]).world
sent_lead true w es s t h k = h
sent_lead false w es s t h k = k

sending_lead : (fuel : ℕ) (s : Settling) (o : ObjName) → Lead s.world (sending_events fuel s o) (sending_all fuel s o).world
unfolding sending_all sending_events
sending_lead zero s o = none_lead s.world
sending_lead (suc fuel) s o =
    sent_lead (is_sent (world_step s.world (transmit o)).answer) s.world _ (sending_all fuel (drained (settle_step s (transmit o))) o) s
    (then_lead (send_lead s o) (sending_lead fuel (drained (settle_step s (transmit o))) o)) (none_lead s.world)

pub running_lead : (s : Settling) (o : ObjName) → Lead s.world (running_events s o) (sends_if_running s o).world
unfolding sends_if_running sends_all running_events send_all_events
running_lead s o = if_lead (is_running (link_at s.world o)) s.world _ [] _ s (sending_lead (sending_fuel (link_at s.world o)) s o) (none_lead s.world)

pub visit_lead : (s : Settling) (o : ObjName) → Lead s.world (visit_events s o) (visited s o).world
unfolding visited visit_events
visit_lead s o = if_lead (is_resuming_link (link_at s.world o)) s.world _ _ _ _ (then_lead (send_lead s o) (running_lead (drained (settle_step s (transmit o))) o)) (running_lead s o)

pub visiting_lead : (visit : Settling → ObjName → Settling) (evs : Settling → ObjName → List WorldEvent) → ((s : Settling) (o : ObjName) → Lead s.world (evs s o) (visit s o).world) → (os : List ObjName) (s : Settling) → Lead s.world (visiting_events visit evs s os) (visiting visit s os).world
unfolding visiting visiting_events
visiting_lead visit evs each [] s = none_lead s.world
visiting_lead visit evs each (o ∷ os) s = then_lead (each s o) (visiting_lead visit evs each os (visit s o))

-- ---- timers

rnr_by_lead : (s : Settling) (o : ObjName) (l : Option Link) → Lead s.world (rnr_events_by s o l) (rnr_by s o l).world
rnr_by_lead s o None = none_lead s.world
rnr_by_lead s o (Some l) = if_lead (l.sender.rnr_wait && may_step s.world l (last_wait s o)) s.world _ [] (noting s o l (settle_step s (world_events.At (events.RnrOver o)))) s (one_lead s (world_events.At (events.RnrOver o)) tt) (none_lead s.world)

pub rnr_lead : (s : Settling) (o : ObjName) → Lead s.world (rnr_events s o) (rnr_visit s o).world
unfolding rnr_visit rnr_events
rnr_lead s o = rnr_by_lead s o (link_at s.world o)

expire_by_lead : (s : Settling) (o : ObjName) (l : Option Link) → Lead s.world (expire_events_by s o l) (expire_by s o l).world
expire_by_lead s o None = none_lead s.world
expire_by_lead s o (Some l) = if_lead (is_running (Some l) && (not l.sender.rnr_wait && nat_lt l.sender.una l.sender.next)) s.world _ [] (has_stepped (settle_step s (world_events.At (events.Expire o)))) s (one_lead s (world_events.At (events.Expire o)) tt) (none_lead s.world)

pub expire_lead : (s : Settling) (o : ObjName) → Lead s.world (expire_events s o) (expire_visit s o).world
unfolding expire_visit expire_events
expire_lead s o = expire_by_lead s o (link_at s.world o)

timers_lead : (s : Settling) (os : List ObjName) → Lead s.world (timer_events s os) (timers s os).world
unfolding timers timer_events
timers_lead s os =
    let t : Settling = visiting rnr_visit s os in
    then_lead (visiting_lead rnr_visit rnr_events rnr_lead os s) (if_lead t.stepped t.world [] _ t (visiting expire_visit t os) (none_lead t.world) (visiting_lead expire_visit expire_events expire_lead os t))

-- ---- rounds

pub round_lead : (s : Settling) → Lead s.world (round_events s) (round s).world
unfolding round round_events
round_lead s =
    let os : List ObjName = live_names s.world in
    let t : Settling = visiting visited (drained s) os in
    then_lead (drained_lead s) (then_lead (visiting_lead visited visit_events visit_lead os (drained s)) (if_lead t.changed t.world [] _ t (timers t os) (none_lead t.world) (timers_lead t os)))

more_lead : (b : Bool) (w : World) (es : List WorldEvent) (s t : Settled) → Lead w es s.world → Lead w [] t.world → Lead w (elim b as (λ x. List WorldEvent) [ true ↦ es | false ↦ [] ]) (elim b as (λ x. Settled) [ true ↦ s | false ↦ t ]).world
more_lead true w es s t h k = h
more_lead false w es s t h k = k

rounds_lead : (fuel n : ℕ) (s : Settling) → Lead s.world (rounds_events fuel s) (rounds_of fuel n s).world
unfolding rounds_of rounds_events
rounds_lead zero n s = none_lead s.world
rounds_lead (suc fuel) n s =
    let r : Settling = round s in
    then_lead (round_lead s) (more_lead (r.changed || r.stepped) r.world _ (rounds_of fuel (n + 1) (begun r)) (record { world = r.world; rounds = n + 1 }) (rounds_lead fuel (n + 1) (begun r)) (none_lead r.world))

pub settled_lead : (w : World) → Lead w (settling_events w) (settled w).world
unfolding settled settling_events
settled_lead w = rounds_lead (32 * load_of w) 0 (started w)

pub has_events : SettlingHasEvents
has_events w = let l : Lead w (settling_events w) (settled w).world = settled_lead w in record { each = l.each; after = l.after }

pub named : RunsFollowByName → SettlingFollowsByName
named runs w m s = runs w m (settling_events w) (All-weaker IsSettling _ in_range (settling_events w) (settled_lead w).each) s
