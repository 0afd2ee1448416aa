use Rattle.completion_fanout.proofs.Steps.{merges, rises}
use Rattle.completion_fanout.proofs.moves.join.Goals as goal

pub learn_as-requires-clause-rule : goal.learn_as-requires-clause-rule
learn_as-requires-clause-rule c = rises _ _

pub absorb-requires-clause-rule : goal.absorb-requires-clause-rule
absorb-requires-clause-rule c = merges _ _ _ _ c.requires.parts
