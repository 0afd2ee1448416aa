-- The whole script.
use Rattle.std.proofs.Common.{ℕ}
use Rattle.script_lang.specs.Scripts.{lines_of}
use Rattle.workload_gen.specs.Plan.{closing_lines, messages_lines, moves_at, opening_lines, plan}
use Rattle.workload_gen.specs.declared.plan.Mix.{Mix}
use Rattle.program_rules.specs.Mixes.{IsMix}
use Rattle.law_scripts.proofs.Cutting.{AreGood, AreGoodLines, all_good, both_good}
use Rattle.law_scripts.proofs.Fixed.{closing_good}
use Rattle.law_scripts.proofs.Messages.{messages_good}
use Rattle.law_scripts.proofs.Moves.{moves_good}
use Rattle.law_scripts.proofs.Opening.{opening_good}
use Rattle.law_scripts.proofs.Spelled.{AreReadBack}

plan_good : AreReadBack → (seed : ℕ) (mix : Mix) → IsMix mix → AreGoodLines (plan seed mix)
unfolding plan
plan_good law seed mix is =
    both_good (opening_lines mix.connections) _ (opening_good law mix.connections is.connections.1)
    (both_good (moves_at mix 0 mix.moves) _ (moves_good law mix 0 mix.moves)
    (both_good (messages_lines seed mix mix.messages) closing_lines (messages_good law seed mix is mix.messages is.messages.1) closing_good))

-- its lines are good
pub lines_good : AreReadBack → (seed : ℕ) (mix : Mix) → IsMix mix → AreGood (lines_of (plan seed mix))
lines_good law seed mix is = all_good (plan seed mix) (plan_good law seed mix is)
