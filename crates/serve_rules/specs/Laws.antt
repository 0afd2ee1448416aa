-- Laws of turns and of timers (this project's choice).
use Rattle.std.specs.Prelude.{ℕ, ◌≡◌, ◌≤◌, ◌⊎◌, ◌&&◌, Bool, true, false, List, [], ◌∷◌, ◌++◌, Option, Some, None}
use Rattle.std.specs.List.{All}
use Rattle.host_ports.specs.Links.{Addressed}
use Rattle.law_arrivals.specs.Turns.{IsOfTurn}
use Rattle.device_core.specs.Numbered.{numbered_view}
use Rattle.protocol.specs.declared.events.Event.{Event}
use Rattle.protocol.specs.declared.events.Event.TheVariants as event
use Rattle.protocol.specs.Replay.{replay}
use Rattle.serve_rules.specs.declared.timers.Timer.{Timer}
use Rattle.serve_rules.specs.Timers.{doubled, is_in_flight, is_same, later, observed}
use Rattle.serve_rules.specs.Server.{Server, after, of_number}
use Rattle.rdma_types.specs.declared.answers.EndView.{EndView}
use Rattle.rdma_types.specs.declared.names.ObjName.{ObjName}
use Rattle.serve_rules.specs.Turns.{turned}

-- the datagrams that arrive in these events, in their order
unfoldable pub arrivals : List Event → List Addressed
arrivals [] = []
arrivals (event.Arrive from bytes ∷ es) = (from, bytes) ∷ arrivals es
arrivals (e ∷ es) = arrivals es

-- events of network and time lead from one device to another, and exactly these datagrams arrive in them
pub record AreEvents (s s' : Server) : Type 0 where
  pub events : List Event
  pub of_turn : All IsOfTurn events
  pub leads : s'.device ≡ replay s.device events
  pub arrive : s.inbox ≡ arrivals events ++ s'.inbox

-- what a turn does to the device is a list of arrivals, transmissions, expiries and ends of RNR waits; what arrives in them
-- are the first of the datagrams that were taken, in their order, and the others are still to arrive
abbrev pub ATurnIsEvents : Type 0
ATurnIsEvents = (s : Server) (now : ℕ) → AreEvents s (turned s now)

-- ---- what the retransmission timer is for

-- a timer runs for one queue pair as it did: for the same moment, since the same number and state
abbrev pub StillRuns : Timer → Option Timer → Type 0
StillRuns t None = ⊥
StillRuns t (Some u) = (u.due ≡ t.due) × (u.una ≡ t.una) × (u.state ≡ t.state)

-- of a queue pair that is told so, nothing waits for that timer: it is not here, nothing of it is in flight, its partner
-- acknowledged more, or its state is another
abbrev pub HasMovedOn : Timer → Option EndView → Type 0
HasMovedOn t None = Unit {0}
HasMovedOn t (Some v) = (is_same t v && is_in_flight v) ≡ false

-- on the way from one state to the other by events of network and time, the queue pair with that number has moved on
pub record MovesOn (s : Server) (n : ℕ) (t : Timer) (s' : Server) : Type 0 where
  pub there : Server
  pub before : AreEvents s there
  pub behind : AreEvents there s'
  pub moved : HasMovedOn t (numbered_view there.device n)

-- on that way, the queue pair with that number takes that event
pub record Takes (event_of : ObjName → Event) (s : Server) (n : ℕ) (s' : Server) : Type 0 where
  pub there : Server
  pub view : EndView
  pub told : numbered_view there.device n ≡ Some view
  pub before : AreEvents s there
  pub behind : AreEvents (after there (event_of view.name)) s'

-- whatever arrives in a turn, a timer that runs for a queue pair still does behind it, but where the queue pair has moved on or
-- expires
abbrev pub ATimerRunsOn : Type 0
ATimerRunsOn =
    (s : Server) (now n m : ℕ) (t : Timer) → of_number s.timers n ≡ Some t → t.due ≡ Some m
    → MovesOn s n t (turned s now) ⊎ (Takes event.Expire s n (turned s now) ⊎ StillRuns t (of_number (turned s now).timers n))

-- .. and in the first turn at its moment or after it, the queue pair has moved on, or expires, or its RNR wait ends
abbrev pub ADueTimerExpires : Type 0
ADueTimerExpires =
    (s : Server) (now n m : ℕ) (t : Timer) → of_number s.timers n ≡ Some t → t.due ≡ Some m → m ≤ now
    → MovesOn s n t (turned s now) ⊎ (Takes event.Expire s n (turned s now) ⊎ Takes event.RnrOver s n (turned s now))

-- a timer that was not set, or whose queue pair made progress, is set for its base, doubled as often as it expired without
-- progress; else it keeps its moment
abbrev pub ATimerIsSetOnce : Type 0
ATimerIsSetOnce =
    (t : Timer) (v : EndView) (base now : ℕ) → is_in_flight v ≡ true
    → (is_same t v ≡ false → (observed t v base now).due ≡ Some (later now base))
    × (is_same t v ≡ true → t.due ≡ None → (observed t v base now).due ≡ Some (later now (doubled base t.doublings)))
    × ((m : ℕ) → is_same t v ≡ true → t.due ≡ Some m → (observed t v base now).due ≡ Some m)
