use Rattle.std.specs.Prelude.{refl}
use Rattle.protocol.specs.Evaluate.{computed}
use Rattle.example_scripts.proofs.packets.pieces.messages_are_cut_at_the_mtu.Goals as goal

pub returns-clause-pieces : goal.returns-clause-pieces
unfolding computed
returns-clause-pieces c = refl

pub returns-clause-first : goal.returns-clause-first
unfolding computed
returns-clause-first c = refl

pub returns-clause-second : goal.returns-clause-second
unfolding computed
returns-clause-second c = refl
