-- The line of a Send.
use Rattle.std.proofs.Common.{ℕ, List, [], ◌∷◌, refl, arith, codes}
use Rattle.std.specs.Fmt.{decimal}
use Rattle.script_lang.specs.Fields.{a_key, a_number, an_immediate, an_object}
use Rattle.script_lang.specs.Lines.{form_of, line_of}
use Rattle.script_lang.specs.Verbs.{posted, send_line, verb_form}
use Rattle.script_lang.specs.Words.{a_word, an_option, the_end}
use Rattle.workload_gen.specs.Lines.{end_a}
use Rattle.workload_gen.specs.Plan as plan
use Rattle.workload_gen.specs.declared.message.Message.{Message}
use Rattle.law_scripts.proofs.Cutting.{AreGoodLines}
use Rattle.law_scripts.proofs.Reading.{AreSaid, words_good}
use Rattle.law_scripts.proofs.Spelled.{AreReadBack, IsSmall, end_a_read, end_a_word, keys_read, long_read, short_read}
use Rattle.law_scripts.proofs.Words.{number_word, word}

-- the words behind the first
abbrev behind_send : Message → List (List ℕ)
behind_send m = end_a m.connection ∷ decimal m.number ∷ codes "01000002" ∷ decimal m.address ∷ decimal m.length ∷ []

send_said : AreReadBack → (m : Message) → IsSmall m → AreSaid (codes "send" ∷ behind_send m)
unfolding form_of verb_form line_of send_line an_object a_number a_key a_word an_immediate an_option posted the_end
send_said law m small = λ past.
    rw (end_a_read law m.connection small.connection, long_read law m.number small.number, keys_read.0, long_read law m.address small.address, short_read law m.length small.length) tt

-- it is good
pub send_good : AreReadBack → (m : Message) → IsSmall m → AreGoodLines (plan.send_line m)
send_good law m small =
    words_good (codes "send") (behind_send m)
    (word (codes "send") refl, (end_a_word m.connection small.connection, (number_word m.number small.number, (word (codes "01000002") refl, (number_word m.address small.address, (number_word m.length (omega (arith, small.length)), tt))))))
    (omega arith) (send_said law m small)
