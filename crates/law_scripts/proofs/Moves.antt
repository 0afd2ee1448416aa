-- The lines of moves.
use Rattle.std.proofs.Common.{◌≡◌, ℕ, zero, suc, ◌≤◌, ◌==◌, List, [], ◌∷◌, ◌++◌, Some, refl, subst, append_assoc, arith, codes}
use Rattle.std.specs.Fmt.{decimal}
use Rattle.script_lang.specs.Fields.{a_name, a_number}
use Rattle.script_lang.specs.Lines.{form_of, line_of}
use Rattle.script_lang.specs.Texts.{name_of, number_in}
use Rattle.script_lang.specs.Verbs.{verb_form}
use Rattle.script_lang.specs.Words.{a_word, the_end}
use Rattle.workload_gen.specs.Lines.{line}
use Rattle.workload_gen.specs.Plan.{move_at, move_lines, moves_at, place_of, settle_line, taken_from, taken_to, transfer_lines}
use Rattle.workload_gen.specs.declared.plan.Mix.{Mix}
use Rattle.law_scripts.proofs.Cutting.{AreGoodLines, both_good, none_good}
use Rattle.law_scripts.proofs.Reading.{AreSaid, words_good}
use Rattle.law_scripts.proofs.Schedule.{either_good}
use Rattle.law_scripts.proofs.Spelled.{AreReadBack}
use Rattle.law_scripts.proofs.Words.{number_word, word}
use Rattle.law_scripts.proofs.Fixed.{settle_good, stop_good}

abbrev placed_words : ℕ → List (List ℕ)
placed_words device = codes "b" ∷ decimal device ∷ []

b_read : name_of (codes "b") ≡ Some (codes "b")
unfolding name_of
b_read = refl

device_read : AreReadBack → (n : ℕ) → 1 ≤ n → n ≤ 255 → number_in 1 255 (decimal n) ≡ Some n
device_read law n some few = law.number 1 255 n some few (omega arith)

restore_said : AreReadBack → (n : ℕ) → 1 ≤ n → n ≤ 255 → AreSaid (codes "restore" ∷ placed_words n)
unfolding form_of verb_form line_of a_name a_number a_word the_end
restore_said law n some few = λ past. rw (b_read, device_read law n some few) tt

release_said : AreReadBack → (n : ℕ) → 1 ≤ n → n ≤ 255 → AreSaid (codes "release" ∷ placed_words n)
unfolding form_of verb_form line_of a_name a_number a_word the_end
release_said law n some few = λ past. rw (b_read, device_read law n some few) tt

restore_good : AreReadBack → (n : ℕ) → 1 ≤ n → n ≤ 255 → AreGoodLines (line (codes "restore") (placed_words n))
restore_good law n some few = words_good (codes "restore") (placed_words n) (word (codes "restore") refl, (word (codes "b") refl, (number_word n (omega arith), tt))) (omega arith) (restore_said law n some few)

release_good : AreReadBack → (n : ℕ) → 1 ≤ n → n ≤ 255 → AreGoodLines (line (codes "release") (placed_words n))
release_good law n some few = words_good (codes "release") (placed_words n) (word (codes "release") refl, (word (codes "b") refl, (number_word n (omega arith), tt))) (omega arith) (release_said law n some few)

transfer_splits : (new old : ℕ) → codes "stop b\n" ++ (line (codes "restore") (placed_words new) ++ (settle_line ++ line (codes "release") (placed_words old))) ≡ transfer_lines new old
unfolding transfer_lines
transfer_splits new old = simp append_assoc

transfer_good : AreReadBack → (new old : ℕ) → 1 ≤ new → new ≤ 255 → 1 ≤ old → old ≤ 255 → AreGoodLines (transfer_lines new old)
transfer_good law new old a b c d =
    subst AreGoodLines (transfer_splits new old)
    (both_good (codes "stop b\n") (line (codes "restore") (placed_words new) ++ (settle_line ++ line (codes "release") (placed_words old))) stop_good
    (both_good (line (codes "restore") (placed_words new)) (settle_line ++ line (codes "release") (placed_words old)) (restore_good law new a b)
    (both_good settle_line (line (codes "release") (placed_words old)) settle_good (release_good law old c d))))

move_good : AreReadBack → (k : ℕ) → AreGoodLines (move_lines k)
move_good law k = transfer_good law (taken_to k) (taken_from k) (omega arith) (omega arith) (omega arith) (omega arith)

move_at_good : AreReadBack → (mix : Mix) (j k : ℕ) → AreGoodLines (move_at mix j k)
unfolding move_at
move_at_good law mix j k = either_good (place_of mix k == j) (move_lines k) [] (move_good law k) none_good

-- the moves that stand at a place
pub moves_good : AreReadBack → (mix : Mix) (j n : ℕ) → AreGoodLines (moves_at mix j n)
unfolding moves_at
moves_good law mix j zero = none_good
moves_good law mix j (suc n) = both_good (moves_at mix j n) (move_at mix j (suc n)) (moves_good law mix j n) (move_at_good law mix j (suc n))
