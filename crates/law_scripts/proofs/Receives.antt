-- The line of a receive.
use Rattle.std.proofs.Common.{◌≡◌, ℕ, List, [], ◌∷◌, Some, refl, arith, codes}
use Rattle.std.specs.Fmt.{decimal}
use Rattle.script_lang.specs.Fields.{a_key, a_number, an_object}
use Rattle.script_lang.specs.Lines.{form_of, line_of}
use Rattle.script_lang.specs.Texts.{greatest_u32, number_in}
use Rattle.script_lang.specs.Verbs.{recv_line, verb_form}
use Rattle.script_lang.specs.Words.{a_word, the_end}
use Rattle.workload_gen.specs.Lines.{end_b}
use Rattle.workload_gen.specs.Plan as plan
use Rattle.workload_gen.specs.declared.message.Message.{Message}
use Rattle.law_scripts.proofs.Cutting.{AreGoodLines}
use Rattle.law_scripts.proofs.Reading.{AreSaid, words_good}
use Rattle.law_scripts.proofs.Spelled.{AreReadBack, IsSmall, end_b_read, end_b_word, keys_read, long_read}
use Rattle.law_scripts.proofs.Words.{number_word, word}

-- the words behind the first
abbrev behind_receive : Message → List (List ℕ)
behind_receive m = end_b m.connection ∷ decimal m.number ∷ codes "02000002" ∷ decimal m.address ∷ codes "4096" ∷ []

size_read : number_in 0 greatest_u32 (codes "4096") ≡ Some 4096
unfolding number_in
size_read = refl

receive_said : AreReadBack → (m : Message) → IsSmall m → AreSaid (codes "recv" ∷ behind_receive m)
unfolding form_of verb_form line_of recv_line an_object a_number a_key a_word the_end
receive_said law m small = λ past.
    rw (end_b_read law m.connection small.connection, long_read law m.number small.number, keys_read.1, long_read law m.address small.address, size_read) tt

-- it is good
pub receive_good : AreReadBack → (m : Message) → IsSmall m → AreGoodLines (plan.recv_line m)
receive_good law m small =
    words_good (codes "recv") (behind_receive m)
    (word (codes "recv") refl, (end_b_word m.connection small.connection, (number_word m.number small.number, (word (codes "02000002") refl, (number_word m.address small.address, (word (codes "4096") refl, tt))))))
    (omega arith) (receive_said law m small)
