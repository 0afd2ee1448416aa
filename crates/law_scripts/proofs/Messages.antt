-- The lines of messages.
use Rattle.std.proofs.Common.{ℕ, zero, suc, ◌+◌, ◌≤◌, ◌<◌, ◌^◌, ◌/◌, ◌%◌, ◌==◌, arith}
use Rattle.workload_gen.specs.Plan.{message_lines, message_of, messages_lines, moves_at, polling_lines, posting_lines, recv_line, send_line, sending_lines, word_at}
use Rattle.workload_gen.specs.declared.message.Message.{Message}
use Rattle.workload_gen.specs.declared.plan.Mix.{Mix}
use Rattle.program_rules.specs.Mixes.{IsMix}
use Rattle.law_scripts.proofs.Cutting.{AreGoodLines, both_good, none_good}
use Rattle.law_scripts.proofs.Adds.{add_good}
use Rattle.law_scripts.proofs.Moves.{moves_good}
use Rattle.law_scripts.proofs.Fetches.{read_good}
use Rattle.law_scripts.proofs.Receives.{receive_good}
use Rattle.law_scripts.proofs.Schedule.{either_good, polling_good, sending_good}
use Rattle.law_scripts.proofs.Sends.{send_good}
use Rattle.law_scripts.proofs.Spelled.{AreReadBack, IsSmall}
use Rattle.law_scripts.proofs.Writes.{write_good}

-- the numbers of a message
message_small : (c j w : ℕ) → 0 < c → c ≤ 8 → j ≤ 2000 → IsSmall (message_of c j w)
message_small c j w some few early = record {
  connection = omega arith;
  number = omega arith;
  length = omega arith;
  address = omega arith;
}

posting_good : AreReadBack → (kind : ℕ) (m : Message) → IsSmall m → AreGoodLines (posting_lines kind m)
unfolding posting_lines
posting_good law kind m small =
    either_good (kind == 0) _ _ (write_good law m small)
    (either_good (kind == 1) _ _ (read_good law m small)
    (either_good (kind == 2) _ _ (add_good law m small)
    (both_good (recv_line m) (send_line m) (receive_good law m small) (send_good law m small))))

-- one message
message_good : AreReadBack → (c j w : ℕ) → 0 < c → c ≤ 8 → j ≤ 2000 → AreGoodLines (message_lines c j w)
unfolding message_lines
message_good law c j w some few early =
    both_good (posting_lines (w / 8 % 4) (message_of c j w)) _ (posting_good law (w / 8 % 4) (message_of c j w) (message_small c j w some few early))
    (both_good (sending_lines j (w % c + 1) (w / 2 ^ 30)) (polling_lines j) (sending_good law j (w % c + 1) (w / 2 ^ 30) (omega arith)) (polling_good j))

-- the first messages, with the moves that stand after them
pub messages_good : AreReadBack → (seed : ℕ) (mix : Mix) → IsMix mix → (n : ℕ) → n ≤ 2000 → AreGoodLines (messages_lines seed mix n)
unfolding messages_lines
messages_good law seed mix is zero early = none_good
messages_good law seed mix is (suc n) early =
    both_good (messages_lines seed mix n) _ (messages_good law seed mix is n (omega arith))
    (both_good (message_lines mix.connections (suc n) (word_at seed n)) (moves_at mix (suc n) mix.moves)
    (message_good law mix.connections (suc n) (word_at seed n) is.connections.0 is.connections.1 early)
    (moves_good law mix (suc n) mix.moves))
