-- The numbers of hexadecimal digits are in their range.
use Rattle.std.proofs.Common.{◌≡◌, ℕ, ◌<◌, ◌^◌, ◌==◌, Bool, true, false, if◌then◌else◌, List, length, Option, Some, None, Result, Ok, Err, refl, ap, subst}
use Rattle.std.specs.Prelude.{option_and_then}
use Rattle.byteorder.specs.Endian.{big_number}
use Rattle.byteorder.specs.Numbers.{big_from-lt}
use Rattle.hex.specs.Hex.{decode_of}
use Rattle.hex.proofs.HexLemmas.{decode_of-ok}
use Rattle.hex.specs.declared.error.FromHexError.{FromHexError}
use Rattle.script_lang.specs.Texts.{hex_number, hex_of, if_decoded}

of_guard : {A : Type 0} (b : Bool) (o : Option A) (x : A) → (if b then o else None) ≡ Some x → o ≡ Some x
of_guard true o x h = h
of_guard false o x h = cc h

of_hex : (r : Result (List ℕ) FromHexError) (bs : List ℕ) → if_decoded r ≡ Some bs → r ≡ Ok bs
of_hex (Ok bytes) bs h =
    let same : bytes ≡ bs = cc h in
    ap Ok same
of_hex (Err e) bs h = cc h

number_of : (o : Option (List ℕ)) (k : ℕ) → option_and_then (λ bs. Some (big_number 3 bs)) o ≡ Some k → (bs : List ℕ) × (o ≡ Some bs) × (big_number 3 bs ≡ k)
number_of None k h = cc h
number_of (Some bs) k h =
    let same : big_number 3 bs ≡ k = cc h in
    (bs, refl, same)

-- six hexadecimal digits make a number of 24 bits
pub three_bytes : (text : List ℕ) (k : ℕ) → hex_number 3 text ≡ Some k → k < 2 ^ 24
unfolding hex_number
three_bytes text k h =
    let s = number_of (hex_of text) k (of_guard (length text == 6) (option_and_then (λ bs. Some (big_number 3 bs)) (hex_of text)) k h) in
    let ok = decode_of-ok text s.0 (of_hex (decode_of text) s.0 s.1) in
    let small : big_number 3 s.0 < 2 ^ 24 = big_from-lt 0 3 s.0 ok.3 in
    let P : ℕ → Type 0 = λ n. n < 2 ^ 24 in
    subst P s.2 small
