use Rattle.completion_fanout.proofs.Steps.{lends}
use Rattle.completion_fanout.proofs.moves.lend.Goals as goal

pub another-requires-clause-rule : goal.another-requires-clause-rule
another-requires-clause-rule c = lends _ _ c.requires.parts c.requires.puts
