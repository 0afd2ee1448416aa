-- The machine follows what happens in the network alone: a datagram is lost, or shown.
use Rattle.std.proofs.Common.{◌-◌, ℕ, zero, suc, List, [], ◌∷◌, true, false, Bool, refl, subst}
use Rattle.std.specs.Prelude.{Option, Some, None, is_some, if◌then◌else◌, length}
use Rattle.rdma_types.specs.declared.answers.Answer.TheVariants as answers
use Rattle.protocol.specs.declared.events.WorldEvent.TheVariants as world_events
use Rattle.protocol.specs.State.{World, Flight}
use Rattle.protocol.specs.Fabric.{kept_flight, losing, changed_at, marked_lost, is_kept}
use Rattle.protocol.specs.WorldStep as step
use Rattle.protocol.specs.WorldStep.{world_step, loses, wires, wires_by}
use Rattle.packetless_machine.specs.Machine.{Machine}
use Rattle.law_simulation.specs.Views as views
use Rattle.law_simulation.specs.Views.{Net, net_of}
use Rattle.law_simulation.specs.Kept as kept
use Rattle.law_simulation.specs.Facts.{Fact}
use Rattle.law_simulation.specs.Stands.{Stands, AreSent}
use Rattle.law_simulation.specs.Law.{Reaches, Follows}
use Rattle.law_simulation.proofs.relation.Verbs.{unheard_reached}

-- the store of a world changes, and each of its datagrams has its fact
pub sent_changed : (w : World) (m : Machine) (flights : List Flight) → Stands w m → AreSent (net_of w m) flights → Stands (record w { sent = flights }) m
unfolding views.contexts_of views.context_of views.end_of views.in_rts views.place_of
sent_changed w m flights s facts = record {
  placed = s.placed;
  counted = s.counted;
  same = s.same;
  sound = s.sound;
  numbered = s.numbered;
  joined = s.joined;
  progress = s.progress;
  husks = s.husks;
  sent = facts;
}

-- ---- a datagram is lost

abbrev OptionFact : Net → Option Flight → Type 0
OptionFact n None = ⊥
OptionFact n (Some f) = Fact n f

lost_fact : (n : Net) (flights : List Flight) (i : ℕ) → AreSent n flights → AreSent n (changed_at marked_lost i flights)
unfolding changed_at
lost_fact n [] i facts k f h = facts k f h
lost_fact n (x ∷ xs) zero facts zero f h = subst (OptionFact n) h (facts zero x refl)
lost_fact n (x ∷ xs) zero facts (suc k) f h = facts (suc k) f h
lost_fact n (x ∷ xs) (suc i) facts zero f h = facts zero f h
lost_fact n (x ∷ xs) (suc i) facts (suc k) f h = lost_fact n xs i (λ j g. facts (suc j) g) k f h

losing_facts : (n : Net) (flights : List Flight) (kept : Bool) (k : ℕ) → AreSent n flights → AreSent n (if kept then changed_at marked_lost (k - 1) flights else flights)
losing_facts n flights true k facts = lost_fact n flights (k - 1) facts
losing_facts n flights false k facts = facts

loses_by : (w : World) (m : Machine) (k : ℕ) (there : Bool) → Stands w m →
    Reaches w m (world_events.Lose k) (if there then step.answers (record w { sent = losing w.sent k }) answers.Done else step.answers w answers.Gone).world (if there then step.answers (record w { sent = losing w.sent k }) answers.Done else step.answers w answers.Gone).answer
unfolding losing kept.verb_of kept.kept_verb
loses_by w m k true s = unheard_reached w m (world_events.Lose k) (record w { sent = losing w.sent k }) answers.Done refl refl (sent_changed w m (losing w.sent k) s (losing_facts (net_of w m) w.sent (is_kept (length w.sent) k) k s.sent))
loses_by w m k false s = unheard_reached w m (world_events.Lose k) w answers.Gone refl refl s

pub lose_follows : (w : World) (m : Machine) (k : ℕ) → Stands w m → Follows w m (world_events.Lose k)
unfolding world_step loses
lose_follows w m k s = loses_by w m k (is_some (kept_flight w.sent k)) s

-- ---- a datagram is shown

wires_found : (w : World) (m : Machine) (k : ℕ) (o : Option Flight) → Stands w m → Reaches w m (world_events.Wire k) (wires_by w o).world (wires_by w o).answer
unfolding kept.verb_of kept.kept_verb
wires_found w m k None s = unheard_reached w m (world_events.Wire k) w answers.Gone refl refl s
wires_found w m k (Some f) s = unheard_reached w m (world_events.Wire k) w (answers.Wire f.bytes) refl refl s

pub wire_follows : (w : World) (m : Machine) (k : ℕ) → Stands w m → Follows w m (world_events.Wire k)
unfolding world_step wires
wire_follows w m k s = wires_found w m k (kept_flight w.sent k) s
