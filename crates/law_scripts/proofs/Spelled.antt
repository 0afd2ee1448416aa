-- Names of ends, as a generated script spells them, are words; these and numbers are read back.
use Rattle.std.proofs.Common.{◌≡◌, ℕ, ◌≤◌, ◌<◌, ◌^◌, true, nat_le, List, ◌∷◌, ◌++◌, length, Some, refl, arith, codes}
use Rattle.std.specs.Fmt.{decimal}
use Rattle.std.specs.List.{list_all}
use Rattle.std.proofs.lemmas.Bool.Decides.{nat_tests}
use Rattle.std.proofs.lemmas.Fmt.{length-decimal-le}
use Rattle.hex.specs.Hex.{decode_pairs}
use Rattle.rdma_types.specs.Spelled.{is_name, is_name_byte}
use Rattle.script_lang.specs.Texts.{is_digit, greatest_u32, greatest_u64, hex_number, number_in, object_of}
use Rattle.workload_gen.specs.Lines.{end_a, end_b}
use Rattle.workload_gen.specs.declared.message.Message.{Message}
use Rattle.law_script_words.proofs.Numbers.{decimal_glyphs, decimal_short, number_digits}
use Rattle.law_script_words.proofs.Spoken.{weaker}
use Rattle.law_scripts.proofs.Words.{IsShortWord}

-- what is known of printed numbers and of names of objects
pub record AreReadBack : Type 0 where
  pub number : (low : ℕ) → (high : ℕ) → (n : ℕ) → low ≤ n → n ≤ high → n < 2 ^ 64 → number_in low high (decimal n) ≡ Some n
  pub object : (context : List ℕ) → (name : List ℕ) → is_name context ≡ true → is_name name ≡ true → object_of (context ++ 46 ∷ name) ≡ Some (record { context = context; name = name })

-- the numbers of a message are in their ranges
pub record IsSmall (m : Message) : Type 0 where
  pub connection : m.connection ≤ 8
  pub number : m.number < 2 ^ 64
  pub length : m.length < 2 ^ 32
  pub address : m.address < 2 ^ 64

-- ---- words

digit_name : (b : ℕ) → is_digit b ≡ true → is_name_byte b ≡ true
digit_name b h = grind (arith, nat_tests)

-- the name of an end is a short word
pub end_a_word : (i : ℕ) → i ≤ 8 → IsShortWord (end_a i)
end_a_word i few = record {
  word = record { some = omega arith; glyphs = decimal_glyphs i (omega arith) };
  short = omega (arith, decimal_short i (omega arith));
}

pub end_b_word : (i : ℕ) → i ≤ 8 → IsShortWord (end_b i)
end_b_word i few = record {
  word = record { some = omega arith; glyphs = decimal_glyphs i (omega arith) };
  short = omega (arith, decimal_short i (omega arith));
}

-- ---- what they are read as

-- a number of 64 bits, and of 32
pub long_read : AreReadBack → (n : ℕ) → n < 2 ^ 64 → number_in 0 greatest_u64 (decimal n) ≡ Some n
long_read law n small = law.number 0 greatest_u64 n (omega arith) (omega arith) small

pub short_read : AreReadBack → (n : ℕ) → n < 2 ^ 32 → number_in 0 greatest_u32 (decimal n) ≡ Some n
short_read law n small = law.number 0 greatest_u32 n (omega arith) (omega arith) (omega arith)

short_name : (bs : List ℕ) → list_all is_name_byte bs ≡ true → length bs ≤ 15 → is_name (113 ∷ bs) ≡ true
short_name bs h short =
    let few : nat_le (length bs) 15 ≡ true = grind (arith, nat_tests) in
    rw (h, few) refl

own_end : (i : ℕ) → i ≤ 8 → is_name (113 ∷ decimal i) ≡ true
own_end i few =
    short_name (decimal i) (weaker is_digit is_name_byte digit_name (decimal i) (number_digits i (omega arith)))
    (omega (arith, length-decimal-le 15 i (omega arith) (omega arith) (omega arith)))

-- the name of an end
pub end_a_read : AreReadBack → (i : ℕ) → i ≤ 8 → object_of (end_a i) ≡ Some (record { context = codes "a"; name = 113 ∷ decimal i })
end_a_read law i few = law.object (codes "a") (113 ∷ decimal i) refl (own_end i few)

pub end_b_read : AreReadBack → (i : ℕ) → i ≤ 8 → object_of (end_b i) ≡ Some (record { context = codes "b"; name = 113 ∷ decimal i })
end_b_read law i few = law.object (codes "b") (113 ∷ decimal i) refl (own_end i few)

-- the keys of the two regions
pub keys_read : (hex_number 4 (codes "01000002") ≡ Some 16777218) × (hex_number 4 (codes "02000002") ≡ Some 33554434) × (hex_number 4 (codes "02000003") ≡ Some 33554435)
unfolding hex_number decode_pairs
keys_read = (refl, refl, refl)
