-- The line of an inner step is read as that step.
use Rattle.std.proofs.Common.{◌≡◌, ℕ, ◌+◌, ◌≤◌, ◌<◌, ◌^◌, ◌&&◌, true, nat_le, List, [], ◌∷◌, ◌++◌, length, Ok, Some, refl, ◌∙◌, arith, length-append, codes}
use Rattle.std.specs.Fmt.{decimal}
use Rattle.std.specs.List.{list_all}
use Rattle.std.proofs.lemmas.Bool.Decides.{nat_tests}
use Rattle.std.proofs.lemmas.List.Folds.{list_all-append}
use Rattle.byteorder.specs.Endian.{big_bytes}
use Rattle.hex.specs.Hex.{IsBytes, encode_lower}
use Rattle.rdma_types.specs.declared.answers.RefusalReason.{RefusalReason}
use Rattle.rdma_types.specs.declared.answers.RefusalReason.TheVariants as whys
use Rattle.rdma_types.specs.declared.names.ObjName.{ObjName}
use Rattle.rdma_types.specs.Spelled.{is_letter, is_name, is_name_byte}
use Rattle.packetless_machine.specs.declared.steps.MachineStep.{MachineStep}
use Rattle.packetless_machine.specs.declared.steps.MachineStep.TheVariants as steps
use Rattle.script_lang.specs.Fields.{a_number, an_object}
use Rattle.script_lang.specs.Lines.{said, whole}
use Rattle.script_lang.specs.Printed.{object_text, why_text}
use Rattle.script_lang.specs.Texts.{bytes_of, greatest_u32, hex_number, number_in, object_of}
use Rattle.script_lang.specs.Words.{a_word, the_end}
use Rattle.run_traces.specs.declared.trace_audit.lines.TraceLine.TheVariants as trace_lines
use Rattle.run_traces.specs.Lines.{inner_step, leader_of, offer_step, refuse_step, step_form, step_line, trace_line, traced_reading, why_of}
use Rattle.run_traces.specs.Written.{step_words}
use Rattle.law_script_words.specs.Spoken.{AreWords, IsWord, behind, columned, is_glyph, spoken}
use Rattle.law_script_words.proofs.Spoken.{left, right, weaker, word}
use Rattle.law_script_words.proofs.Numbers.{decimal_short, number_word}
use Rattle.law_traces.specs.Said.{IsShort}
use Rattle.law_traces.proofs.SaidLines.{words_traced}

-- what is known of printed numbers and bytes, and of names of objects
pub record AreReadBack : Type 0 where
  pub number : (low : ℕ) → (high : ℕ) → (n : ℕ) → low ≤ n → n ≤ high → n < 2 ^ 64 → number_in low high (decimal n) ≡ Some n
  pub object : (context : List ℕ) → (name : List ℕ) → is_name context ≡ true → is_name name ≡ true → object_of (context ++ 46 ∷ name) ≡ Some (record { context = context; name = name })
  pub key : (n : ℕ) → n < 2 ^ 32 → hex_number 4 (encode_lower (big_bytes 4 n)) ≡ Some n
  pub queue_pair : (n : ℕ) → n < 2 ^ 24 → hex_number 3 (encode_lower (big_bytes 3 n)) ≡ Some n
  pub bytes : (bs : List ℕ) → IsBytes bs → 1 ≤ length bs → length bs ≤ 4096 → bytes_of (encode_lower bs) ≡ Some bs
  pub one_way : (low : ℕ) → (high : ℕ) → (n : ℕ) → (text : List ℕ) → high < 2 ^ 64 → number_in low high text ≡ Some n → text ≡ decimal n

-- an object whose name can be written
pub record IsSpelled (o : ObjName) : Type 0 where
  pub context : is_name o.context ≡ true
  pub name : is_name o.name ≡ true

-- an inner step of such an end
abbrev pub IsNamed : MachineStep → Type 0
IsNamed (steps.Verb verb given) = ⊥
IsNamed (steps.Run q n) = IsSpelled q
IsNamed (steps.Atom q) = IsSpelled q
IsNamed (steps.ReadTurn q) = IsSpelled q
IsNamed (steps.Refuse q because) = IsSpelled q
IsNamed (steps.Dry q) = IsSpelled q
IsNamed (steps.Offer q i off n) = IsSpelled q
IsNamed (steps.Land q o) = IsSpelled q
IsNamed (steps.Known q bytes) = IsSpelled q
IsNamed (steps.Tell q) = IsSpelled q
IsNamed (steps.Expire q) = IsSpelled q
IsNamed (steps.Wait q) = IsSpelled q
IsNamed (steps.Bounce q) = IsSpelled q

-- ---- words

-- how many bytes words and the spaces before them are
abbrev pub room : List (List ℕ) → ℕ
room [] = 0
room (w ∷ ws) = length w + 1 + room ws

pub length-behind : (ws : List (List ℕ)) → length (behind ws) ≡ room ws
length-behind [] = refl
length-behind (w ∷ ws) = omega (arith, length-append w (behind ws), length-behind ws)

name_glyph : (b : ℕ) → is_name_byte b ≡ true → is_glyph b ≡ true
name_glyph b h = grind (arith, nat_tests)

letter_byte : (b : ℕ) → is_letter b ≡ true → is_name_byte b ≡ true
letter_byte b h = rw h refl

-- a name has the bytes of names, and is short
pub record IsNameText (text : List ℕ) : Type 0 where
  pub some : 0 < length text
  pub short : length text ≤ 16
  pub bytes : list_all is_name_byte text ≡ true

few : (n : ℕ) → nat_le n 15 ≡ true → n ≤ 15
few n h = grind (arith, nat_tests)

pub name_text : (text : List ℕ) → is_name text ≡ true → IsNameText text
name_text [] h = cc h
name_text (b ∷ bs) h =
    let front : (is_letter b && list_all is_name_byte bs) ≡ true = left _ _ h in
    let first : is_name_byte b ≡ true = letter_byte b (left _ _ front) in
    let short : length bs ≤ 15 = few (length bs) (right _ _ h) in
    record { some = omega arith; short = omega arith; bytes = rw first (right _ _ front) }

pub name_word : (text : List ℕ) → is_name text ≡ true → IsWord text
name_word text h = let t = name_text text h in record { some = t.some; glyphs = weaker is_name_byte is_glyph name_glyph text t.bytes }

-- the name of an object is a word
pub object_word : (q : ObjName) → IsSpelled q → IsWord (object_text q)
object_word q is =
    let one = name_word q.context is.context in
    let two = name_word q.name is.name in
    record {
      some = omega (arith, length-append q.context (46 ∷ q.name));
      glyphs = list_all-append is_glyph q.context (46 ∷ q.name) ∙ rw (one.glyphs, two.glyphs) refl;
    }

pub object_short : (q : ObjName) → IsSpelled q → length (object_text q) ≤ 33
object_short q is =
    let one = name_text q.context is.context in
    let two = name_text q.name is.name in
    omega (arith, length-append q.context (46 ∷ q.name))

-- ---- the words of an inner step

-- a few words
pub record AreFew (ws : List (List ℕ)) : Type 0 where
  pub are : AreWords ws
  pub short : room ws ≤ 200

end_few : (w : List ℕ) → IsWord w → length w ≤ 24 → (q : ObjName) → IsSpelled q → AreFew (w ∷ object_text q ∷ [])
end_few w is small q named = record { are = (is, (object_word q named, tt)); short = omega (arith, object_short q named) }

number_few : (w : List ℕ) → IsWord w → length w ≤ 24 → (q : ObjName) → IsSpelled q → (n : ℕ) → n < 2 ^ 32 → AreFew (w ∷ object_text q ∷ decimal n ∷ [])
number_few w is small q named n short = record {
  are = (is, (object_word q named, (number_word n (omega arith), tt)));
  short = omega (arith, object_short q named, decimal_short n (omega arith));
}

why_few : (q : ObjName) → IsSpelled q → (w : RefusalReason) → AreFew (codes "refuse" ∷ object_text q ∷ why_text w ∷ [])
why_few q named whys.Invalid = record { are = (word (codes "refuse") refl, (object_word q named, (word (codes "invalid") refl, tt))); short = omega (arith, object_short q named) }
why_few q named whys.Access = record { are = (word (codes "refuse") refl, (object_word q named, (word (codes "access") refl, tt))); short = omega (arith, object_short q named) }
why_few q named whys.Length = record { are = (word (codes "refuse") refl, (object_word q named, (word (codes "length") refl, tt))); short = omega (arith, object_short q named) }

step_few : (s : MachineStep) → IsNamed s → IsShort s → AreFew (step_words s)
unfolding step_words
step_few (steps.Verb verb given) named short = absurd named
step_few (steps.Run q n) named short = number_few (codes "run") (word (codes "run") refl) (omega arith) q named n short
step_few (steps.Atom q) named short = end_few (codes "atom") (word (codes "atom") refl) (omega arith) q named
step_few (steps.ReadTurn q) named short = end_few (codes "turn") (word (codes "turn") refl) (omega arith) q named
step_few (steps.Refuse q because) named short = why_few q named because
step_few (steps.Dry q) named short = end_few (codes "dry") (word (codes "dry") refl) (omega arith) q named
step_few (steps.Offer q i off n) named short = record {
  are = (word (codes "offer") refl, (object_word q named, (number_word i (omega arith), (number_word off (omega arith), (number_word n (omega arith), tt)))));
  short = omega (arith, object_short q named, decimal_short i (omega arith), decimal_short off (omega arith), decimal_short n (omega arith));
}
step_few (steps.Land q o) named short = number_few (codes "land") (word (codes "land") refl) (omega arith) q named o short
step_few (steps.Known q bytes) named short = number_few (codes "known") (word (codes "known") refl) (omega arith) q named bytes short
step_few (steps.Tell q) named short = end_few (codes "tell") (word (codes "tell") refl) (omega arith) q named
step_few (steps.Expire q) named short = end_few (codes "expire") (word (codes "expire") refl) (omega arith) q named
step_few (steps.Wait q) named short = end_few (codes "wait") (word (codes "wait") refl) (omega arith) q named
step_few (steps.Bounce q) named short = end_few (codes "bounce") (word (codes "bounce") refl) (omega arith) q named

-- ---- what they are read as

short_read : AreReadBack → (n : ℕ) → n < 2 ^ 32 → number_in 0 greatest_u32 (decimal n) ≡ Some n
short_read law n small = law.number 0 greatest_u32 n (omega arith) (omega arith) (omega arith)

object_read : AreReadBack → (q : ObjName) → IsSpelled q → object_of (object_text q) ≡ Some q
object_read law q is = law.object q.context q.name is.context is.name

step_said : AreReadBack → (s : MachineStep) → IsNamed s → IsShort s → (past : ℕ) → said (whole trace_line (record { words = columned 1 (codes "i" ∷ step_words s); past = past })) ≡ Ok (trace_lines.Step s)
unfolding step_words trace_line leader_of step_line step_form inner_step refuse_step offer_step why_of an_object a_number a_word the_end
step_said law (steps.Verb verb given) named short past = absurd named
step_said law (steps.Run q n) named short past = rw (object_read law q named, short_read law n short) refl
step_said law (steps.Atom q) named short past = rw (object_read law q named) refl
step_said law (steps.ReadTurn q) named short past = rw (object_read law q named) refl
step_said law (steps.Refuse q whys.Invalid) named short past = rw (object_read law q named) refl
step_said law (steps.Refuse q whys.Access) named short past = rw (object_read law q named) refl
step_said law (steps.Refuse q whys.Length) named short past = rw (object_read law q named) refl
step_said law (steps.Dry q) named short past = rw (object_read law q named) refl
step_said law (steps.Offer q i off n) named short past = rw (object_read law q named, short_read law i short.0, short_read law off short.1, short_read law n short.2) refl
step_said law (steps.Land q o) named short past = rw (object_read law q named, short_read law o short) refl
step_said law (steps.Known q bytes) named short past = rw (object_read law q named, short_read law bytes short) refl
step_said law (steps.Tell q) named short past = rw (object_read law q named) refl
step_said law (steps.Expire q) named short past = rw (object_read law q named) refl
step_said law (steps.Wait q) named short past = rw (object_read law q named) refl
step_said law (steps.Bounce q) named short past = rw (object_read law q named) refl

-- the words of its line
pub step_line_words : (s : MachineStep) → IsNamed s → IsShort s → AreWords (codes "i" ∷ step_words s)
step_line_words s named short = (word (codes "i") refl, (step_few s named short).are)

-- the line of an inner step is read as that step
pub step_traced : AreReadBack → (s : MachineStep) → IsNamed s → IsShort s → traced_reading (spoken (codes "i") (step_words s)) ≡ Ok (trace_lines.Step s)
step_traced law s named short =
    let ws : List (List ℕ) = step_words s in
    let f = step_few s named short in
    words_traced (codes "i") ws (step_line_words s named short) (omega (arith, length-append (codes "i") (behind ws), length-behind ws, f.short))
    ∙ step_said law s named short (length (spoken (codes "i") ws) + 1)
