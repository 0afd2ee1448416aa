use Rattle.std.specs.Prelude.{refl}
use Rattle.protocol.specs.Evaluate.{computed}
use Rattle.example_scripts.proofs.packets.pieces.an_immediate_comes_last.Goals as goal

pub returns-clause-span : goal.returns-clause-span
unfolding computed
returns-clause-span c = refl

pub returns-clause-first : goal.returns-clause-first
unfolding computed
returns-clause-first c = refl

pub returns-clause-none : goal.returns-clause-none
unfolding computed
returns-clause-none c = refl

pub returns-clause-last : goal.returns-clause-last
unfolding computed
returns-clause-last c = refl

pub returns-clause-imm : goal.returns-clause-imm
unfolding computed
returns-clause-imm c = refl
