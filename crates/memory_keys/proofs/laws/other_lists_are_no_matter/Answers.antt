use Rattle.memory_keys.proofs.Stores.{held-other, regions-other, others-new}
use Rattle.memory_keys.proofs.laws.other_lists_are_no_matter.Goals as goal

pub returns-clause-held : goal.returns-clause-held
returns-clause-held c = λ old new list bytes held are apart p. held-other old new list bytes held are apart p

pub returns-clause-regions : goal.returns-clause-regions
returns-clause-regions c = λ old new list bytes held apart p. regions-other old new list bytes held apart p

pub returns-clause-apart : goal.returns-clause-apart
returns-clause-apart c = λ pool list held are none. others-new pool list held are.lie none
