use Rattle.law_mailbox.proofs.opening.Plans.{steps_build_nothing, verbs_build_nothing}
use Rattle.law_mailbox.proofs.nothing_is_built.Goals as goal

pub returns-clause-steps : goal.returns-clause-steps
returns-clause-steps c = steps_build_nothing

pub returns-clause-verbs : goal.returns-clause-verbs
returns-clause-verbs c = verbs_build_nothing
