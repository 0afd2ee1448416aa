-- The events that a settling is made of, in their order: part by part beside the settling itself.
use Rattle.std.specs.Prelude.{ℕ, zero, suc, ◌*◌, ◌&&◌, ◌||◌, not, true, false, List, [], ◌∷◌, ◌++◌, map, Option, Some, None, nat_lt, if◌then◌else◌}
use Rattle.rdma_types.specs.declared.names.ObjName.{ObjName}
use Rattle.protocol.specs.declared.events.Event.TheVariants.{Expire, RnrOver}
use Rattle.protocol.specs.declared.events.WorldEvent.{WorldEvent}
use Rattle.protocol.specs.declared.events.WorldEvent.TheVariants.{At, Deliver}
use Rattle.protocol.specs.EndWords.{is_resuming_link, is_running}
use Rattle.protocol.specs.Fabric.{pending_numbers}
use Rattle.protocol.specs.State.{World, Link}
use Rattle.protocol.specs.WorldStep.{world_step}
use Rattle.protocol.specs.Settle.{Settling, begun, drained, expire_visit, is_sent, last_wait, link_at, live_names, load_of, may_step, pass, rnr_visit, round, sending_fuel, settle_step, transmit, visited, visiting}
use Rattle.law_settling.specs.Ends.{started}

-- ---- 1. drain

-- the datagrams that are pending now
abbrev pub pass_events : Settling → List WorldEvent
pass_events s = map (λ k. Deliver k) (pending_numbers s.world.sent)

-- .. three times
unfoldable pub drain_events : Settling → List WorldEvent
drain_events s = pass_events s ++ (pass_events (pass s) ++ pass_events (pass (pass s)))

-- ---- 2. send

-- an end transmits, and what it sent is drained
abbrev pub send_events : Settling → ObjName → List WorldEvent
send_events s o = transmit o ∷ drain_events (settle_step s (transmit o))

-- until the answer is not Sent
unfoldable pub sending_events : ℕ → Settling → ObjName → List WorldEvent
sending_events zero s o = []
sending_events (suc fuel) s o =
    (elim (is_sent (world_step s.world (transmit o)).answer) [
      | true ↦ send_events s o ++ sending_events fuel (drained (settle_step s (transmit o))) o
      | false ↦ []
    ])

-- all that one end sends
unfoldable pub send_all_events : Settling → ObjName → List WorldEvent
send_all_events s o = sending_events (sending_fuel (link_at s.world o)) s o

-- only a Running end goes on
unfoldable pub running_events : Settling → ObjName → List WorldEvent
running_events s o = if is_running (link_at s.world o) then send_all_events s o else []

-- a Resuming end transmits once, and goes on only if it then is Running
unfoldable pub visit_events : Settling → ObjName → List WorldEvent
visit_events s o =
    if is_resuming_link (link_at s.world o)
    then send_events s o ++ running_events (drained (settle_step s (transmit o))) o
    else running_events s o

-- each end in order
unfoldable pub visiting_events : (Settling → ObjName → Settling) → (Settling → ObjName → List WorldEvent) → Settling → List ObjName → List WorldEvent
visiting_events visit events s [] = []
visiting_events visit events s (o ∷ os) = events s o ++ visiting_events visit events (visit s o) os

-- ---- 3. timers

-- the RNR timer of an end that waits and may be stepped
abbrev pub rnr_events_by : Settling → ObjName → Option Link → List WorldEvent
rnr_events_by s o None = []
rnr_events_by s o (Some l) = if l.sender.rnr_wait && may_step s.world l (last_wait s o) then At (RnrOver o) ∷ [] else []

-- that of one end
unfoldable pub rnr_events : Settling → ObjName → List WorldEvent
rnr_events s o = rnr_events_by s o (link_at s.world o)

-- the expiry of a Running end that does not wait and has numbers in flight
abbrev pub expire_events_by : Settling → ObjName → Option Link → List WorldEvent
expire_events_by s o None = []
expire_events_by s o (Some l) = if is_running (Some l) && (not l.sender.rnr_wait && nat_lt l.sender.una l.sender.next) then At (Expire o) ∷ [] else []

-- that of one end
unfoldable pub expire_events : Settling → ObjName → List WorldEvent
expire_events s o = expire_events_by s o (link_at s.world o)

-- expiries only where no RNR timer was stepped
abbrev pub expiry_events : Settling → List ObjName → List WorldEvent
expiry_events s os = if s.stepped then [] else visiting_events expire_visit expire_events s os

-- RNR timers, and else expiries
unfoldable pub timer_events : Settling → List ObjName → List WorldEvent
timer_events s os = visiting_events rnr_visit rnr_events s os ++ expiry_events (visiting rnr_visit s os) os

-- only where nothing changed in this round
abbrev pub timer_events_if_still : Settling → List ObjName → List WorldEvent
timer_events_if_still s os = if s.changed then [] else timer_events s os

-- ---- rounds

-- drain, send, and where nothing changed in this round the timers
unfoldable pub round_events : Settling → List WorldEvent
round_events s =
    let os = live_names s.world in
    drain_events s ++ (visiting_events visited visit_events (drained s) os ++ timer_events_if_still (visiting visited (drained s) os) os)

-- until a round in which nothing changed and nothing was stepped
unfoldable pub rounds_events : ℕ → Settling → List WorldEvent
rounds_events zero s = []
rounds_events (suc fuel) s =
    let r = round s in
    round_events s
    ++ (elim (r.changed || r.stepped) [
      | true ↦ rounds_events fuel (begun r)
      | false ↦ []
    ])

-- the events of the settling of a world
unfoldable pub settling_events : World → List WorldEvent
settling_events w = rounds_events (32 * load_of w) (started w)
