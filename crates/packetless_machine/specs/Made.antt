-- What a method that makes a step answers, and what it leaves.
use Rattle.std.specs.Prelude.{◌≡◌, ℕ, Bool, true, false, Result, Ok, Err}
use Rattle.rdma_types.specs.declared.verbs.Verb.{Verb}
use Rattle.rdma_types.specs.declared.answers.Answer.{Answer}
use Rattle.packetless_machine.specs.declared.steps.IdealFault.{IdealFault}
use Rattle.packetless_machine.specs.declared.steps.IdealFault.TheVariants.{NotEnabled, OutOfMemory}
use Rattle.packetless_machine.specs.declared.steps.MachineStep.{MachineStep}
use Rattle.packetless_machine.specs.declared.steps.MachineStep.TheVariants as steps
use Rattle.packetless_machine.specs.Machine.{Machine}
use Rattle.packetless_machine.specs.Verbs.{may_verb, after_verb, verb_answer}
use Rattle.packetless_machine.specs.Legal.{is_enabled, effect, answer_of}

-- the old machine may make a step that leads to `next` with the answer `said`, and did; or it may not; or it may and
-- was out of memory, and it is as it was
abbrev pub Makes : Machine → Machine → Bool → Machine → Answer → Result Answer IdealFault → Type 0
Makes old new may next said (Ok a) = (may ≡ true) × (new ≡ next) × (a ≡ said)
Makes old new may next said (Err NotEnabled) = (may ≡ false) × (new ≡ old)
Makes old new may next said (Err OutOfMemory) = (may ≡ true) × (new ≡ old)

-- .. for a step
abbrev pub MakesStep : Machine → Machine → MachineStep → Result Answer IdealFault → Type 0
MakesStep old new step result = Makes old new (is_enabled old step) (effect old step) (answer_of old step) result

-- .. for a verb
abbrev pub MakesVerb : Machine → Machine → Verb → ℕ → Result Answer IdealFault → Type 0
MakesVerb old new verb given result = Makes old new (may_verb old verb given) (after_verb old verb given) (verb_answer old verb given) result

-- it is an inner step, and may be made
abbrev pub may_inner : Machine → MachineStep → Bool
may_inner m (steps.Verb verb given) = false
may_inner m other = is_enabled m other
