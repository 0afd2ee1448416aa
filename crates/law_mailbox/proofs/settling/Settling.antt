-- A settling keeps what is held and posted, and goes ahead.
use Rattle.std.proofs.Common.{◌≡◌, ℕ, ◌≤◌, List, [], ◌∷◌, true, subst, ◌∙◌}
use Rattle.std.specs.Prelude.{All}
use Rattle.std.proofs.lemmas.List.Elements.{All-head, All-tail, All-weaker}
use Rattle.protocol.specs.declared.events.WorldEvent.{WorldEvent}
use Rattle.protocol.specs.Settle.{settled}
use Rattle.protocol.specs.State.{World}
use Rattle.protocol.specs.WorldStep.{world_after, world_step}
use Rattle.packetless_machine.specs.declared.steps.MachineStep.{MachineStep}
use Rattle.packetless_machine.specs.Legal.{IsRun, after, effect, is_enabled, seen, seen_of}
use Rattle.packetless_machine.specs.Machine.{Machine}
use Rattle.law_simulation.specs.Law.{AlwaysFollows, Follows}
use Rattle.law_settling.specs.Events.{settling_events}
use Rattle.law_settling.specs.Settling.{IsSettling, SettlingHasEvents}
use Rattle.mailbox_rules.specs.Calls.{is_of_network}
use Rattle.mailbox_rules.specs.Histories.{Turn}
use Rattle.mailbox_rules.specs.State.{Mail, with_world}
use Rattle.law_mailbox.specs.Finished.{IsHeldIn, line_of}
use Rattle.law_mailbox.specs.Held.{AreAllKept, IsInner}
use Rattle.law_mailbox.specs.Kept.{Sight}
use Rattle.law_mailbox.specs.Seen.{Moved, Moves, Stays}
use Rattle.law_mailbox.specs.Settled.{IsAhead, IsPostedLine, reach_of, with_sight}
use Rattle.law_mailbox.specs.Works.{IsKeptLine, Line}
use Rattle.law_mailbox.proofs.settling.Ahead.{further, moves_are_ahead, stays}
use Rattle.law_mailbox.proofs.connection.AllSteps.{all_seen}
use Rattle.law_mailbox.proofs.work.EachCall.{settling_of_network}
use Rattle.law_mailbox.proofs.work.Held.{in_range, is_inner, no_parts, unheard}
use Rattle.law_mailbox.proofs.work.Posted.{moves_keep_posted}
use Rattle.law_mailbox.proofs.connection.Seen.{seen_steps_keep}
use Rattle.law_mailbox.proofs.connection.Steps.{moves_keep}

-- ---- one connection

record IsMoved (i : ℕ) (x : Line) (s : Sight) : Type 0 where
  kept : IsKeptLine i (with_sight x s)
  posted : IsPostedLine i (with_sight x s)
  ahead : IsAhead x (with_sight x s)

all_moved : (i : ℕ) (x : Line) {s : Sight} → Moves i x.sight s → IsKeptLine i x → IsPostedLine i x → IsMoved i x s
all_moved i x Stays h p = record { kept = h; posted = p; ahead = stays (reach_of x) }
all_moved i x (Moved {s' = s'} {s'' = s''} before move) h p =
    let a : IsMoved i x s' = all_moved i x before h p in
    record {
      kept = moves_keep i s' s'' x.channel x.sent x.open' move a.kept;
      posted = moves_keep_posted i (with_sight x s') s'' move a.posted;
      ahead = further (reach_of x) (reach_of (with_sight x s')) (reach_of (with_sight x s'')) a.ahead (moves_are_ahead i (with_sight x s') s'' move a.kept);
    }

-- ---- the machine

-- all connections in two states of the machine
record AreMoved (peers : ℕ) (ts : List Turn) (m : Mail) (machine machine' : Machine) : Type 0 where
  all : AreAllKept peers ts m machine'
  posted : (i : ℕ) → 1 ≤ i → i ≤ peers → IsPostedLine i (line_of machine' m ts i)
  ahead : (i : ℕ) → 1 ≤ i → i ≤ peers → IsAhead (line_of machine m ts i) (line_of machine' m ts i)

module _ (peers : ℕ) (ts : List Turn) (m : Mail) where
  step_moved : (machine : Machine) (s : MachineStep) → IsInner s → is_enabled machine s ≡ true → AreMoved peers ts m machine machine → AreMoved peers ts m machine (effect machine s)
  step_moved machine s inner enabled h =
      let seen = all_seen peers ts m machine s inner enabled h.all in
      let each : (i : ℕ) → 1 ≤ i → i ≤ peers → IsMoved i (line_of machine m ts i) (line_of (effect machine s) m ts i).sight =
      λ i low high. all_moved i (line_of machine m ts i) (seen.each i low high).moves (h.all.kept i low high) (h.posted i low high) in
      record {
        all = seen_steps_keep peers (all_seen peers) ts m machine s inner enabled h.all;
        posted = λ i low high. (each i low high).posted;
        ahead = λ i low high. (each i low high).ahead;
      }

  -- they begin where they are
  begin_moved : (machine : Machine) → AreAllKept peers ts m machine → ((i : ℕ) → 1 ≤ i → i ≤ peers → IsPostedLine i (line_of machine m ts i)) → AreMoved peers ts m machine machine
  begin_moved machine all posted = record { all = all; posted = posted; ahead = λ i low high. stays (reach_of (line_of machine m ts i)) }

  run_moved : (machine : Machine) (ss : List MachineStep) → IsRun machine ss → seen machine ss ≡ [] → AreMoved peers ts m machine machine → AreMoved peers ts m machine (after machine ss)
  run_moved machine [] run quiet h = h
  run_moved machine (s ∷ ss) run quiet h =
      let both = no_parts (seen_of machine s) (seen (effect machine s) ss) quiet in
      let one = step_moved machine s (is_inner machine s both.0) run.0 h in
      let rest = run_moved (effect machine s) ss run.1 both.1 (begin_moved (effect machine s) one.all one.posted) in
      record {
        all = rest.all;
        posted = rest.posted;
        ahead = λ i low high. further (reach_of (line_of machine m ts i)) (reach_of (line_of (effect machine s) m ts i)) (reach_of (line_of (after (effect machine s) ss) m ts i)) (one.ahead i low high) (rest.ahead i low high);
      }

-- ---- the world

-- what is held of m leads to what is held of m'
pub record LeadsTo (peers : ℕ) (ts : List Turn) (m m' : Mail) (machine : Machine) : Type 0 where
  pub machine' : Machine
  pub held : IsHeldIn peers ts m' machine'
  pub ahead : (i : ℕ) → 1 ≤ i → i ≤ peers → IsAhead (line_of machine m ts i) (line_of machine' m' ts i)

module _ (peers : ℕ) (follow : (e : WorldEvent) → AlwaysFollows e) (ts : List Turn) where
  pub event_leads : (m : Mail) (machine : Machine) (e : WorldEvent) → is_of_network e ≡ true → IsHeldIn peers ts m machine → LeadsTo peers ts m (with_world m (world_step m.world e).world) machine
  event_leads m machine e net h =
      let f : Follows m.world machine e = follow e m.world machine (in_range e net) h.stands in
      let quiet : seen machine f.steps ≡ [] = f.heard ∙ unheard m.world e (world_step m.world e).answer net in
      let a = run_moved peers ts m machine f.steps f.is_run quiet (begin_moved peers ts m machine h.all h.posted) in
      record {
        machine' = after machine f.steps;
        held = record { stands = f.stands; senders = h.senders; all = record { opened = a.all.opened; joined = a.all.joined; kept = a.all.kept; dues = a.all.dues }; posted = a.posted };
        ahead = a.ahead;
      }

  events_lead : (m : Mail) (machine : Machine) (es : List WorldEvent) → All (λ e. is_of_network e ≡ true) es → IsHeldIn peers ts m machine → LeadsTo peers ts m (with_world m (world_after m.world es)) machine
  unfolding world_after
  events_lead m machine [] net h = record { machine' = machine; held = h; ahead = λ i low high. stays (reach_of (line_of machine m ts i)) }
  events_lead m machine (e ∷ es) net h =
      let one : LeadsTo peers ts m (with_world m (world_step m.world e).world) machine = event_leads m machine e (All-head (λ x. is_of_network x ≡ true) e es net) h in
      let rest : LeadsTo peers ts (with_world m (world_step m.world e).world) (with_world m (world_after (world_step m.world e).world es)) one.machine' =
      events_lead (with_world m (world_step m.world e).world) one.machine' es (All-tail (λ x. is_of_network x ≡ true) e es net) one.held in
      record {
        machine' = rest.machine';
        held = rest.held;
        ahead = λ i low high. further (reach_of (line_of machine m ts i)) (reach_of (line_of one.machine' m ts i)) (reach_of (line_of rest.machine' m ts i)) (one.ahead i low high) (rest.ahead i low high);
      }

  pub settle_leads : SettlingHasEvents → (m : Mail) (machine : Machine) → IsHeldIn peers ts m machine → LeadsTo peers ts m (with_world m (settled m.world).world) machine
  settle_leads named m machine h =
      let each : All (λ e. is_of_network e ≡ true) (settling_events m.world) = All-weaker IsSettling (λ e. is_of_network e ≡ true) settling_of_network (settling_events m.world) (named m.world).each in
      subst (λ (w : World). LeadsTo peers ts m (with_world m w) machine) (named m.world).after (events_lead m machine (settling_events m.world) each h)
