-- What contexts consist of: inner steps of the machine change nothing of it, nor do verbs that build nothing.
use Rattle.std.proofs.Common.{◌≡◌, ℕ, refl, ◌∙◌}
use Rattle.rdma_types.specs.declared.names.Name.{Name}
use Rattle.rdma_types.specs.declared.verbs.Verb.{Verb}
use Rattle.packetless_machine.specs.declared.steps.MachineStep.{MachineStep}
use Rattle.packetless_machine.specs.Legal.{effect}
use Rattle.packetless_machine.specs.Machine.{Machine, context_of, has_context}
use Rattle.packetless_machine.specs.Verbs.{after_verb}
use Rattle.law_mailbox.specs.Answered.{plan_of}
use Rattle.law_mailbox.specs.Held.{IsInner}
use Rattle.law_mailbox.specs.Plans.{AreBuiltAs, IsVerbOfWork}
use Rattle.law_mailbox.proofs.opening.Plans.{steps_build_nothing, verbs_build_nothing}

-- the same contexts, and they consist of the same things
pub record IsPlannedAs (m m' : Machine) : Type 0 where
  pub contexts : (c : Name) → has_context m' c ≡ has_context m c
  pub plans : (c : Name) → plan_of (context_of m' c) ≡ plan_of (context_of m c)

pub planned_itself : (m : Machine) → IsPlannedAs m m
planned_itself m = record { contexts = λ c. refl; plans = λ c. refl }

pub planned_both : {m m' m'' : Machine} → IsPlannedAs m m' → IsPlannedAs m' m'' → IsPlannedAs m m''
planned_both f g = record { contexts = λ c. g.contexts c ∙ f.contexts c; plans = λ c. g.plans c ∙ f.plans c }

-- contexts that are built alike consist of the same
planned_built : (m m' : Machine) → AreBuiltAs m' m → IsPlannedAs m m'
planned_built m m' built = record {
  contexts = built.there;
  plans = λ c.
      let lengths = (built.each c).region_lengths in
      let queues = (built.each c).queue_names in
      let capacities = (built.each c).capacities in
      let ends = (built.each c).end_names in
      λ k. record { regions = lengths k; queues = queues k; capacities = capacities k; ends = ends k };
}

pub inner_planned : (m : Machine) (s : MachineStep) → IsInner s → IsPlannedAs m (effect m s)
inner_planned m s inner = planned_built m (effect m s) (steps_build_nothing m s inner)

pub verb_planned : (m : Machine) (v : Verb) (given : ℕ) → IsVerbOfWork v → IsPlannedAs m (after_verb m v given)
verb_planned m v given of_work = planned_built m (after_verb m v given) (verbs_build_nothing m v given of_work)
