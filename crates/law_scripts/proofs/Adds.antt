-- The line of a FetchAdd.
use Rattle.std.proofs.Common.{ℕ, List, [], ◌∷◌, refl, arith, codes}
use Rattle.std.specs.Fmt.{decimal}
use Rattle.script_lang.specs.Fields.{a_key, a_number, an_object}
use Rattle.script_lang.specs.Lines.{form_of, line_of}
use Rattle.script_lang.specs.Verbs.{add_line, posted, verb_form}
use Rattle.script_lang.specs.Words.{a_word, an_option, the_end}
use Rattle.workload_gen.specs.Lines.{end_a}
use Rattle.workload_gen.specs.Plan as plan
use Rattle.workload_gen.specs.declared.message.Message.{Message}
use Rattle.law_scripts.proofs.Cutting.{AreGoodLines}
use Rattle.law_scripts.proofs.Reading.{AreSaid, words_good}
use Rattle.law_scripts.proofs.Spelled.{AreReadBack, IsSmall, end_a_read, end_a_word, keys_read, long_read}
use Rattle.law_scripts.proofs.Words.{number_word, word}

-- the words behind the first
abbrev behind_add : Message → List (List ℕ)
behind_add m = end_a m.connection ∷ decimal m.number ∷ codes "01000002" ∷ decimal m.address ∷ decimal m.address ∷ codes "02000003" ∷ decimal m.length ∷ []

add_said : AreReadBack → (m : Message) → IsSmall m → AreSaid (codes "add" ∷ behind_add m)
unfolding form_of verb_form line_of add_line an_object a_number a_key a_word an_option posted the_end
add_said law m small = λ past.
    rw (end_a_read law m.connection small.connection, long_read law m.number small.number, keys_read.0, long_read law m.address small.address, long_read law m.address small.address, keys_read.2, long_read law m.length (omega (arith, small.length))) tt

-- it is good
pub add_good : AreReadBack → (m : Message) → IsSmall m → AreGoodLines (plan.add_line m)
add_good law m small =
    words_good (codes "add") (behind_add m)
    (word (codes "add") refl, (end_a_word m.connection small.connection, (number_word m.number small.number, (word (codes "01000002") refl, (number_word m.address small.address, (number_word m.address small.address, (word (codes "02000003") refl, (number_word m.length (omega (arith, small.length)), tt))))))))
    (omega arith) (add_said law m small)
