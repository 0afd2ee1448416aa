-- The lines of queue pairs.
use Rattle.std.proofs.Common.{◌≡◌, ℕ, ◌≤◌, List, [], ◌∷◌, Some, true, refl, arith, codes}
use Rattle.rdma_types.specs.Limits.{most_depth}
use Rattle.rdma_types.specs.Spelled.{is_name}
use Rattle.script_lang.specs.Fields.{a_number, an_object, an_own}
use Rattle.script_lang.specs.Lines.{form_of, line_of}
use Rattle.script_lang.specs.Texts.{number_in, object_of}
use Rattle.script_lang.specs.Verbs.{qp_line, verb_form}
use Rattle.script_lang.specs.Words.{a_word, the_end}
use Rattle.workload_gen.specs.Lines.{end_a, end_b}
use Rattle.workload_gen.specs.Plan.{qp_a_line, qp_b_line}
use Rattle.law_scripts.proofs.Cutting.{AreGoodLines}
use Rattle.law_scripts.proofs.Reading.{AreSaid, words_good}
use Rattle.law_scripts.proofs.Spelled.{AreReadBack, end_a_read, end_a_word, end_b_read, end_b_word}
use Rattle.law_scripts.proofs.Words.{word}

-- the words behind the first, in the first context and in the second
abbrev behind_pair_a : ℕ → List (List ℕ)
behind_pair_a i = end_a i ∷ codes "a.p" ∷ codes "a.c" ∷ codes "a.c" ∷ codes "64" ∷ codes "64" ∷ []

abbrev behind_pair_b : ℕ → List (List ℕ)
behind_pair_b i = end_b i ∷ codes "b.p" ∷ codes "b.c" ∷ codes "b.c" ∷ codes "64" ∷ codes "64" ∷ []

depth_read : number_in 1 most_depth (codes "64") ≡ Some 64
unfolding number_in
depth_read = refl

object_read : AreReadBack → (context name : ℕ) → is_name (context ∷ []) ≡ true → is_name (name ∷ []) ≡ true → object_of (context ∷ 46 ∷ name ∷ []) ≡ Some (record { context = context ∷ []; name = name ∷ [] })
object_read law context name c n = law.object (context ∷ []) (name ∷ []) c n

pair_a_said : AreReadBack → (i : ℕ) → i ≤ 8 → AreSaid (codes "qp" ∷ behind_pair_a i)
unfolding form_of verb_form line_of qp_line an_object an_own a_number a_word the_end
pair_a_said law i few = λ past.
    rw (end_a_read law i few, object_read law 97 112 refl refl, object_read law 97 99 refl refl, object_read law 97 99 refl refl, depth_read, depth_read) tt

pair_b_said : AreReadBack → (i : ℕ) → i ≤ 8 → AreSaid (codes "qp" ∷ behind_pair_b i)
unfolding form_of verb_form line_of qp_line an_object an_own a_number a_word the_end
pair_b_said law i few = λ past.
    rw (end_b_read law i few, object_read law 98 112 refl refl, object_read law 98 99 refl refl, object_read law 98 99 refl refl, depth_read, depth_read) tt

-- they are good
pub pair_a_good : AreReadBack → (i : ℕ) → i ≤ 8 → AreGoodLines (qp_a_line i)
pair_a_good law i few =
    words_good (codes "qp") (behind_pair_a i)
    (word (codes "qp") refl, (end_a_word i few, (word (codes "a.p") refl, (word (codes "a.c") refl, (word (codes "a.c") refl, (word (codes "64") refl, (word (codes "64") refl, tt)))))))
    (omega arith) (pair_a_said law i few)

pub pair_b_good : AreReadBack → (i : ℕ) → i ≤ 8 → AreGoodLines (qp_b_line i)
pair_b_good law i few =
    words_good (codes "qp") (behind_pair_b i)
    (word (codes "qp") refl, (end_b_word i few, (word (codes "b.p") refl, (word (codes "b.c") refl, (word (codes "b.c") refl, (word (codes "64") refl, (word (codes "64") refl, tt)))))))
    (omega arith) (pair_b_said law i few)
