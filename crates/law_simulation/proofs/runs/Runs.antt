-- A run of events that are followed is followed, and what is heard in it is legal.
use Rattle.std.proofs.Common.{arith, ◌≡◌, suc, List, [], ◌∷◌, ◌++◌, refl, sym, ap, ◌∙◌}
use Rattle.std.specs.Prelude.{All}
use Rattle.std.proofs.lemmas.List.{append_assoc}
use Rattle.protocol.specs.declared.events.WorldEvent.{WorldEvent}
use Rattle.protocol.specs.State.{World, empty_world}
use Rattle.protocol.specs.WorldStep.{world_step, world_after}
use Rattle.packetless_machine.specs.declared.steps.MachineStep.{MachineStep}
use Rattle.packetless_machine.specs.Machine.{Machine, empty}
use Rattle.packetless_machine.specs.Legal.{IsRun, IsLegal, after, effect, seen, seen_of}
use Rattle.law_simulation.specs.Stands.{Stands}
use Rattle.law_simulation.specs.Law.{AlwaysFollows, Follows, FollowsRun, IsInRange, joined_steps, kept}

-- ---- two runs, one after the other

pub runs_on : (m : Machine) (ss ts : List MachineStep) → IsRun m ss → IsRun (after m ss) ts → IsRun m (ss ++ ts)
runs_on m [] ts first second = second
runs_on m (s ∷ ss) ts first second = (first.0, runs_on (effect m s) ss ts first.1 second)

pub after_on : (m : Machine) (ss ts : List MachineStep) → after m (ss ++ ts) ≡ after (after m ss) ts
after_on m [] ts = refl
after_on m (s ∷ ss) ts = after_on (effect m s) ss ts

pub seen_on : (m : Machine) (ss ts : List MachineStep) → seen m (ss ++ ts) ≡ seen m ss ++ seen (after m ss) ts
seen_on m [] ts = refl
seen_on m (s ∷ ss) ts = ap (λ x. seen_of m s ++ x) (seen_on (effect m s) ss ts) ∙ sym (append_assoc (seen_of m s) (seen (effect m s) ss) (seen (after (effect m s) ss) ts))

-- ---- runs

pub first_of_all : (P : WorldEvent → Type 0) (e : WorldEvent) (es : List WorldEvent) → All P (e ∷ es) → P e
first_of_all P e es h = h 0 e (omega arith)

pub rest_of_all : (P : WorldEvent → Type 0) (e : WorldEvent) (es : List WorldEvent) → All P (e ∷ es) → All P es
rest_of_all P e es h k d b = h (suc k) d (omega (arith, b))

-- an event that is followed, before a run that is
follows_on : (w : World) (m : Machine) (e : WorldEvent) (es : List WorldEvent) (f : Follows w m e) → FollowsRun (world_step w e).world (after m f.steps) es → FollowsRun w m (e ∷ es)
unfolding world_after
follows_on w m e es f rest = record {
  steps = f.steps ∷ rest.steps;
  is_run = runs_on m f.steps (joined_steps rest.steps) f.is_run rest.is_run;
  heard = seen_on m f.steps (joined_steps rest.steps) ∙ rw (f.heard, rest.heard) refl;
  allowed = (f.allowed, rest.allowed);
  stands = rw (after_on m f.steps (joined_steps rest.steps)) rest.stands;
}

follows_nothing : (w : World) (m : Machine) → Stands w m → FollowsRun w m []
unfolding world_after
follows_nothing w m s = record { steps = []; is_run = tt; heard = refl; allowed = tt; stands = s }

pub run_follows : (w : World) (m : Machine) (es : List WorldEvent) → All AlwaysFollows es → All IsInRange es → Stands w m → FollowsRun w m es
run_follows w m [] always ranges s = follows_nothing w m s
run_follows w m (e ∷ es) always ranges s =
    let f : Follows w m e = first_of_all AlwaysFollows e es always w m (first_of_all IsInRange e es ranges) s in
    follows_on w m e es f (run_follows (world_step w e).world (after m f.steps) es (rest_of_all AlwaysFollows e es always) (rest_of_all IsInRange e es ranges) f.stands)

pub heard_legal : (es : List WorldEvent) → FollowsRun empty_world empty es → IsLegal (kept empty_world es)
heard_legal es f = record { run = joined_steps f.steps; is_run = f.is_run; heard_all = f.heard }
