-- What stands after a message.
use Rattle.std.proofs.Common.{ℕ, ◌≤◌, ◌%◌, ◌==◌, Bool, true, false, List, [], ◌∷◌, if◌then◌else◌, refl, arith, codes}
use Rattle.script_lang.specs.Fields.{an_object}
use Rattle.script_lang.specs.Lines.{form_of, line_of}
use Rattle.script_lang.specs.Verbs.{verb_form}
use Rattle.script_lang.specs.Words.{a_word, the_end}
use Rattle.workload_gen.specs.Lines.{end_a}
use Rattle.workload_gen.specs.Plan.{closing_lines, expire_line, go_line, polling_lines, sending_lines}
use Rattle.law_scripts.proofs.Cutting.{AreGoodLines, both_good, none_good}
use Rattle.law_scripts.proofs.Reading.{AreSaid, words_good}
use Rattle.law_scripts.proofs.Spelled.{AreReadBack, end_a_read, end_a_word}
use Rattle.law_scripts.proofs.Words.{word}
use Rattle.law_scripts.proofs.Fixed.{closing_good, settle_good}

go_said : AreReadBack → (i : ℕ) → i ≤ 8 → AreSaid (codes "go" ∷ end_a i ∷ [])
unfolding form_of verb_form line_of an_object a_word the_end
go_said law i few = λ past. rw (end_a_read law i few) tt

expire_said : AreReadBack → (i : ℕ) → i ≤ 8 → AreSaid (codes "expire" ∷ end_a i ∷ [])
unfolding form_of verb_form line_of an_object a_word the_end
expire_said law i few = λ past. rw (end_a_read law i few) tt

go_good : AreReadBack → (i : ℕ) → i ≤ 8 → AreGoodLines (go_line i)
go_good law i few = words_good (codes "go") (end_a i ∷ []) (word (codes "go") refl, (end_a_word i few, tt)) (omega arith) (go_said law i few)

expire_good : AreReadBack → (i : ℕ) → i ≤ 8 → AreGoodLines (expire_line i)
expire_good law i few = words_good (codes "expire") (end_a i ∷ []) (word (codes "expire") refl, (end_a_word i few, tt)) (omega arith) (expire_said law i few)

-- lines that a test chooses
pub either_good : (b : Bool) (one two : List ℕ) → AreGoodLines one → AreGoodLines two → AreGoodLines (if b then one else two)
either_good true one two a c = a
either_good false one two a c = c

-- what is sent after a message
pub sending_good : AreReadBack → (j i bits : ℕ) → i ≤ 8 → AreGoodLines (sending_lines j i bits)
unfolding sending_lines
sending_good law j i bits few =
    let go : AreGoodLines (go_line i) = go_good law i few in
    either_good (j % 16 == 1) _ _ (both_good (go_line i) (expire_line i) go (expire_good law i few))
    (either_good (bits == 0) _ _ go
    (either_good (bits == 1) _ _ (both_good (go_line i) (go_line i) go go)
    (either_good (bits == 2) _ _ none_good settle_good)))

-- what is polled after it
pub polling_good : (j : ℕ) → AreGoodLines (polling_lines j)
unfolding polling_lines
polling_good j = either_good (j % 16 == 0) closing_lines [] closing_good none_good
