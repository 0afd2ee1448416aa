-- The opening lines.
use Rattle.std.proofs.Common.{ℕ, zero, suc, ◌≤◌, arith}
use Rattle.workload_gen.specs.Plan.{connect_line, connection_lines, connections_lines, contexts_text, devices_text, opening_lines, qp_a_line, qp_b_line, things_text}
use Rattle.law_scripts.proofs.Cutting.{AreGoodLines, both_good, none_good}
use Rattle.law_scripts.proofs.Connects.{connect_good}
use Rattle.law_scripts.proofs.Fixed.{contexts_good, devices_good, things_good}
use Rattle.law_scripts.proofs.Pairs.{pair_a_good, pair_b_good}
use Rattle.law_scripts.proofs.Spelled.{AreReadBack}

connection_good : AreReadBack → (i : ℕ) → i ≤ 8 → AreGoodLines (connection_lines i)
unfolding connection_lines
connection_good law i few =
    both_good (qp_a_line i) _ (pair_a_good law i few)
    (both_good (qp_b_line i) (connect_line i) (pair_b_good law i few) (connect_good law i few))

connections_good : AreReadBack → (n : ℕ) → n ≤ 8 → AreGoodLines (connections_lines n)
unfolding connections_lines
connections_good law zero few = none_good
connections_good law (suc n) few =
    both_good (connections_lines n) (connection_lines (suc n)) (connections_good law n (omega arith)) (connection_good law (suc n) few)

-- they are good
pub opening_good : AreReadBack → (c : ℕ) → c ≤ 8 → AreGoodLines (opening_lines c)
unfolding opening_lines
opening_good law c few =
    both_good devices_text _ devices_good
    (both_good contexts_text _ contexts_good
    (both_good things_text (connections_lines c) things_good (connections_good law c few)))
