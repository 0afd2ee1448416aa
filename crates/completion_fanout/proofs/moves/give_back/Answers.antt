use Rattle.completion_fanout.proofs.Steps.{gives_back}
use Rattle.completion_fanout.proofs.moves.give_back.Goals as goal

pub absorb-requires-clause-rule : goal.absorb-requires-clause-rule
absorb-requires-clause-rule c = gives_back _ _ _ _ c.requires.parts c.requires.puts
