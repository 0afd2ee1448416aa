-- Emptying a device: all settles, and then its contexts move one by one, each before the next one leaves (this project's choice).
use Rattle.std.specs.Prelude.{ℕ, ◌≢◌, ◌≤◌, Bool, true, false, List, [], ◌∷◌, ◌++◌, length, map, AllPairs, Option, Some, None}
use Rattle.std.specs.List.{list_all}
use Rattle.rdma_types.specs.declared.answers.Answer.{Answer}
use Rattle.rdma_types.specs.declared.answers.Answer.TheVariants as answer
use Rattle.rdma_types.specs.declared.answers.Refusal.TheVariants as refusal
use Rattle.rdma_types.specs.declared.names.Name.{Name}
use Rattle.protocol.specs.declared.events.WorldEvent.TheVariants as world_event
use Rattle.protocol.specs.Script.{Happening, Event, Settles, happens}
use Rattle.protocol.specs.State.{World, device_at}
use Rattle.protocol.specs.WorldStep.{has_device, is_done, world_step}
use Rattle.evac_rules.specs.declared.moves.Shifted.{Shifted}
use Rattle.evac_rules.specs.declared.moves.StayReason.{StayReason}
use Rattle.evac_rules.specs.declared.moves.StayReason.TheVariants as why

-- 1 to 15 targets, all different and none the device itself
pub record AreTargets (from : ℕ) (targets : List ℕ) : Type 0 where
  pub some : 1 ≤ length targets
  pub few : length targets ≤ 15
  pub differ : AllPairs (λ a b. a ≢ b) (from ∷ targets)

-- why a device is not emptied
pub data Fault : Type 0 where
  NoSuch : Fault  -- it or a target is no device
  Stays : (context : Name) → (why : StayReason) → Fault

-- how far it has come
pub record Evacuation : Type 0 where
  pub steps : List Happening  -- what was done, in order
  pub world : World
  pub moved : List Shifted
  pub fault : Option Fault

-- nothing done
abbrev pub begun : World → Evacuation
begun w = record { steps = []; world = w; moved = []; fault = None }

-- one more step
abbrev pub doing : Evacuation → Happening → Evacuation
doing s h = record s { steps = s.steps ++ h ∷ []; world = (happens s.world h).world }

-- it ends
abbrev pub failed : Evacuation → Fault → Evacuation
failed s f = record s { fault = Some f }

-- one more context moved
abbrev pub with_moved : Evacuation → Name → ℕ → Evacuation
with_moved s n t = record s { moved = s.moved ++ record { context = n; target = t } ∷ [] }

-- ---- one context

-- a stop of a context
abbrev pub stop : Name → Happening
stop n = Event (world_event.Stop n)

-- a restore on a device
abbrev pub restore : Name → ℕ → Happening
restore n t = Event (world_event.Restore n t)

-- its husk on a device is forgotten
abbrev pub release : Name → ℕ → Happening
release n k = Event (world_event.Release n k)

-- a device takes the carried context: its restore there is not refused
abbrev pub takes : World → Name → ℕ → Bool
takes w n t = is_done (world_step w (world_event.Restore n t)).answer

-- the tries to restore a context: how far they have come, and the target that took it
pub record Tried : Type 0 where
  pub state : Evacuation
  pub target : Option ℕ

-- it is restored on the first target that takes it, where one does
unfoldable pub tries : Evacuation → Name → List ℕ → Tried
tries s n [] = record { state = s; target = None }
tries s n (t ∷ ts) = (elim (takes s.world n t) [
  | true ↦ record { state = doing s (restore n t); target = Some t }
  | false ↦ tries (doing s (restore n t)) n ts
])

-- no target took the context: its husk is forgotten, it is restored where it was, and all settles
abbrev pub returned : Evacuation → ℕ → Name → Evacuation
returned s from n = failed (doing (doing (doing s (release n from)) (restore n from)) Settles) (Stays n why.NoTarget)

-- after the tries: all settles, and the context moved, or it is taken back
abbrev pub placed_by : Evacuation → ℕ → Name → Option ℕ → Evacuation
placed_by s from n None = returned s from n
placed_by s from n (Some t) = with_moved (doing s Settles) n t

-- a stopped context is put on a target, or taken back
abbrev pub placed : Evacuation → ℕ → List ℕ → Name → Evacuation
placed s from targets n = let x = tries s n targets in placed_by x.state from n x.target

-- why a context stays, by the answer to its stop
abbrev pub stay_of : Answer → Option StayReason
stay_of (answer.Refused refusal.PeerMoving) = Some why.PeerMoving
stay_of (answer.Refused refusal.TooMany) = Some why.TooMany
stay_of a = None

-- a stop was refused, or the context is put on a target
abbrev pub stopped_by : Evacuation → ℕ → List ℕ → Name → Option StayReason → Evacuation
stopped_by s from targets n (Some y) = failed s (Stays n y)
stopped_by s from targets n None = placed s from targets n

-- a context is stopped, and put on a target
unfoldable pub moves : Evacuation → ℕ → List ℕ → Name → Evacuation
moves s from targets n = stopped_by (doing s (stop n)) from targets n (stay_of (world_step s.world (world_event.Stop n)).answer)

-- ---- all of them

-- one context after the other, until one stays
unfoldable pub moving : Evacuation → ℕ → List ℕ → List Name → Evacuation
moving s from targets [] = s
moving s from targets (n ∷ ns) = let next = moves s from targets n in (elim next.fault [
  | None ↦ moving next from targets ns
  | Some f ↦ next
])

-- the contexts that live on a device, in order of making or restoring
abbrev pub names_on : World → ℕ → List Name
names_on w k = map (λ c. c.name) (device_at w k).contexts

-- all settles, and the contexts leave
abbrev pub emptying : World → ℕ → List ℕ → Evacuation
emptying w from targets = moving (doing (begun w) Settles) from targets (names_on w from)

-- all of them are devices
abbrev pub are_devices : World → List ℕ → Bool
are_devices w ks = list_all (has_device w) ks

-- a device is emptied, if it and the targets are devices
unfoldable pub evacuation : World → ℕ → List ℕ → Evacuation
evacuation w from targets = (elim (are_devices w (from ∷ targets)) [
  | true ↦ emptying w from targets
  | false ↦ failed (begun w) NoSuch
])
