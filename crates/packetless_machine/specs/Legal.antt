-- Runs of the packetless machine, and the answers that an application may hear.
use Rattle.std.specs.Prelude.{◌≡◌, List, [], ◌∷◌, ◌++◌, Bool, true, ◌&&◌}
use Rattle.rdma_types.specs.declared.verbs.Verb.{Verb}
use Rattle.rdma_types.specs.declared.answers.Answer.{Answer}
use Rattle.rdma_types.specs.declared.answers.Answer.TheVariants.{Done}
use Rattle.packetless_machine.specs.declared.steps.MachineStep.{MachineStep}
use Rattle.packetless_machine.specs.declared.steps.MachineStep.TheVariants as steps
use Rattle.packetless_machine.specs.Machine.{Machine, empty}
use Rattle.packetless_machine.specs.Steps.{may_run, run, may_atom, atom, may_read, read_turn, may_refuse, refuse, may_dry, dried, may_offer, offered, may_land, landed, may_know, knowing, may_tell, tell, has_untold, expire, may_wait, wait, may_bounce, bounce}
use Rattle.packetless_machine.specs.Verbs.{may_verb, verb_answer, after_verb}

-- the step may be made
abbrev pub is_enabled : Machine → MachineStep → Bool
is_enabled m (steps.Verb verb given) = may_verb m verb given
is_enabled m (steps.Run q n) = may_run m q n
is_enabled m (steps.Atom q) = may_atom m q
is_enabled m (steps.ReadTurn q) = may_read m q
is_enabled m (steps.Refuse q why) = may_refuse m q why
is_enabled m (steps.Dry q) = may_dry m q
is_enabled m (steps.Offer q i off n) = may_offer m q i off n
is_enabled m (steps.Land q o) = may_land m q o
is_enabled m (steps.Known q bytes) = may_know m q bytes
is_enabled m (steps.Tell q) = may_tell m q
is_enabled m (steps.Expire q) = has_untold m q
is_enabled m (steps.Wait q) = may_wait m q
is_enabled m (steps.Bounce q) = may_bounce m q

-- what it does
abbrev pub effect : Machine → MachineStep → Machine
effect m (steps.Verb verb given) = after_verb m verb given
effect m (steps.Run q n) = run m q n
effect m (steps.Atom q) = atom m q
effect m (steps.ReadTurn q) = read_turn m q
effect m (steps.Refuse q why) = refuse m q why
effect m (steps.Dry q) = dried m q
effect m (steps.Offer q i off n) = offered m q i off n
effect m (steps.Land q o) = landed m q o
effect m (steps.Known q bytes) = knowing m q bytes
effect m (steps.Tell q) = tell m q
effect m (steps.Expire q) = expire m q
effect m (steps.Wait q) = wait m q
effect m (steps.Bounce q) = bounce m q

-- what it answers; an inner step answers Done
abbrev pub answer_of : Machine → MachineStep → Answer
answer_of m (steps.Verb verb given) = verb_answer m verb given
answer_of m other = Done

-- the steps can be made one after the other
abbrev pub IsRun : Machine → List MachineStep → Type 0
IsRun m [] = Unit {0}
IsRun m (s ∷ ss) = (is_enabled m s ≡ true) × IsRun (effect m s) ss

-- .. as a test
abbrev pub is_run : Machine → List MachineStep → Bool
is_run m [] = true
is_run m (s ∷ ss) = is_enabled m s && is_run (effect m s) ss

-- the machine after a run
abbrev pub after : Machine → List MachineStep → Machine
after m [] = m
after m (s ∷ ss) = after (effect m s) ss

-- what an application sees of a step: a verb and its answer
abbrev pub seen_of : Machine → MachineStep → List (Verb × Answer)
seen_of m (steps.Verb verb given) = (verb, verb_answer m verb given) ∷ []
seen_of m other = []

-- what it sees of a run
abbrev pub seen : Machine → List MachineStep → List (Verb × Answer)
seen m [] = []
seen m (s ∷ ss) = seen_of m s ++ seen (effect m s) ss

-- verbs and their answers, in order, are those of a run from this machine
pub record IsLegalFrom (m : Machine) (heard : List (Verb × Answer)) : Type 0 where
  pub run : List MachineStep
  pub is_run : IsRun m run
  pub heard_all : seen m run ≡ heard

-- .. of a run from the empty machine
abbrev pub IsLegal : List (Verb × Answer) → Type 0
IsLegal heard = IsLegalFrom empty heard
