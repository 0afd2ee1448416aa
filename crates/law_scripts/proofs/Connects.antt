-- The line of a connection.
use Rattle.std.proofs.Common.{◌≡◌, ℕ, ◌*◌, ◌≤◌, List, [], ◌∷◌, Some, refl, subst, arith, codes}
use Rattle.std.specs.Fmt.{decimal}
use Rattle.script_lang.specs.Fields.{a_number, an_mtu, an_object, some_terms, the_word}
use Rattle.script_lang.specs.Lines.{connect_line, form_of, line_of}
use Rattle.script_lang.specs.Texts.{mtu_of, number_in}
use Rattle.script_lang.specs.Verbs.{verb_form}
use Rattle.script_lang.specs.Words.{a_word, the_end}
use Rattle.workload_gen.specs.Lines.{end_a, end_b, line}
use Rattle.workload_gen.specs.Plan as plan
use Rattle.workload_gen.specs.Plan.{terms_text}
use Rattle.law_scripts.proofs.Cutting.{AreGoodLines}
use Rattle.law_scripts.proofs.Reading.{AreSaid, words_good}
use Rattle.law_scripts.proofs.Spelled.{AreReadBack, end_a_read, end_a_word, end_b_read, end_b_word}
use Rattle.law_scripts.proofs.Words.{number_word, word}

-- the words behind the first
abbrev behind_connect : ℕ → List (List ℕ)
behind_connect i =
    end_a i ∷ end_b i ∷ codes "mtu" ∷ codes "1024" ∷ codes "psn" ∷ decimal (1000 * i) ∷ decimal (2000 * i)
    ∷ codes "retry" ∷ codes "7" ∷ codes "rnr" ∷ codes "7" ∷ codes "reads" ∷ codes "4" ∷ []

mtu_read : mtu_of (codes "1024") ≡ Some 1024
unfolding mtu_of number_in
mtu_read = refl

seven_read : number_in 0 7 (codes "7") ≡ Some 7
unfolding number_in
seven_read = refl

reads_read : number_in 1 16 (codes "4") ≡ Some 4
unfolding number_in
reads_read = refl

start_read : AreReadBack → (n : ℕ) → n ≤ 16777215 → number_in 0 16777215 (decimal n) ≡ Some n
start_read law n small = law.number 0 16777215 n (omega arith) small (omega arith)

connect_said : AreReadBack → (i : ℕ) → i ≤ 8 → AreSaid (codes "connect" ∷ behind_connect i)
unfolding form_of verb_form line_of connect_line some_terms the_word an_mtu an_object a_number a_word the_end
connect_said law i few = λ past.
    rw (end_a_read law i few, end_b_read law i few, mtu_read, start_read law (1000 * i) (omega arith), start_read law (2000 * i) (omega arith), seven_read, seven_read, reads_read) tt

connect_words : (i : ℕ) → line (codes "connect") (behind_connect i) ≡ plan.connect_line i
unfolding terms_text
connect_words i = refl

connect_as_words : AreReadBack → (i : ℕ) → i ≤ 8 → AreGoodLines (line (codes "connect") (behind_connect i))
connect_as_words law i few =
    words_good (codes "connect") (behind_connect i)
    (word (codes "connect") refl, (end_a_word i few, (end_b_word i few, (word (codes "mtu") refl, (word (codes "1024") refl, (word (codes "psn") refl, (number_word (1000 * i) (omega arith), (number_word (2000 * i) (omega arith), (word (codes "retry") refl, (word (codes "7") refl, (word (codes "rnr") refl, (word (codes "7") refl, (word (codes "reads") refl, (word (codes "4") refl, tt))))))))))))))
    (omega arith) (connect_said law i few)

-- it is good
pub connect_good : AreReadBack → (i : ℕ) → i ≤ 8 → AreGoodLines (plan.connect_line i)
connect_good law i few = subst AreGoodLines (connect_words i) (connect_as_words law i few)
