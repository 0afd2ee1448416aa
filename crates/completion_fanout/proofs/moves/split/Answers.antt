use Rattle.completion_fanout.proofs.Steps.{forks}
use Rattle.completion_fanout.proofs.moves.split.Goals as goal

pub another-requires-clause-rule : goal.another-requires-clause-rule
another-requires-clause-rule c = forks _ _ c.requires.parts
