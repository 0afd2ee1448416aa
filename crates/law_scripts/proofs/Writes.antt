-- The line of a Write.
use Rattle.std.proofs.Common.{ℕ, List, [], ◌∷◌, refl, arith, codes}
use Rattle.std.specs.Fmt.{decimal}
use Rattle.script_lang.specs.Fields.{a_key, a_number, an_immediate, an_object}
use Rattle.script_lang.specs.Lines.{form_of, line_of}
use Rattle.script_lang.specs.Verbs.{posted, verb_form, write_line}
use Rattle.script_lang.specs.Words.{a_word, an_option, the_end}
use Rattle.workload_gen.specs.Lines.{end_a}
use Rattle.workload_gen.specs.Plan as plan
use Rattle.workload_gen.specs.declared.message.Message.{Message}
use Rattle.law_scripts.proofs.Cutting.{AreGoodLines}
use Rattle.law_scripts.proofs.Reading.{AreSaid, words_good}
use Rattle.law_scripts.proofs.Spelled.{AreReadBack, IsSmall, end_a_read, end_a_word, keys_read, long_read, short_read}
use Rattle.law_scripts.proofs.Words.{number_word, word}

-- the words behind the first
abbrev behind_write : Message → List (List ℕ)
behind_write m = end_a m.connection ∷ decimal m.number ∷ codes "01000002" ∷ decimal m.address ∷ decimal m.length ∷ decimal m.address ∷ codes "02000003" ∷ []

write_said : AreReadBack → (m : Message) → IsSmall m → AreSaid (codes "write" ∷ behind_write m)
unfolding form_of verb_form line_of write_line an_object a_number a_key a_word an_immediate an_option posted the_end
write_said law m small = λ past.
    rw (end_a_read law m.connection small.connection, long_read law m.number small.number, keys_read.0, long_read law m.address small.address, short_read law m.length small.length, long_read law m.address small.address, keys_read.2) tt

-- it is good
pub write_good : AreReadBack → (m : Message) → IsSmall m → AreGoodLines (plan.write_line m)
write_good law m small =
    words_good (codes "write") (behind_write m)
    (word (codes "write") refl, (end_a_word m.connection small.connection, (number_word m.number small.number, (word (codes "01000002") refl, (number_word m.address small.address, (number_word m.length (omega (arith, small.length)), (number_word m.address small.address, (word (codes "02000003") refl, tt))))))))
    (omega arith) (write_said law m small)
