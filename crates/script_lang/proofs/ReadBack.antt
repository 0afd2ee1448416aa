-- Numbers and bytes that are printed in hexadecimal digits are read back.
use Rattle.std.proofs.Common.{◌≡◌, ℕ, zero, suc, ◌<◌, ◌≤◌, ◌*◌, ◌/◌, ◌%◌, ◌^◌, ◌&&◌, true, List, [], length, Some, refl, ap, arith, nat_le}
use Rattle.std.proofs.lemmas.Bool.{eq-eqb}
use Rattle.std.proofs.lemmas.Bool.Decides.{nat_tests}
use Rattle.std.specs.Int.{byte_at, bytes_high_first}
use Rattle.byteorder.specs.Endian.{big_bytes}
use Rattle.byteorder.specs.Numbers.{big_number-reads_back}
use Rattle.hex.specs.Hex.{IsBytes, encode_lower, lower_digits}
use Rattle.hex.proofs.HexLemmas.{decode_of-encode_lower, length-encode_with}
use Rattle.script_lang.specs.Texts.{hex_number, bytes_of}

mod_small : (n : ℕ) → n % 256 < 256
mod_small n = omega arith

byte_small : (k x : ℕ) → byte_at k x < 256
byte_small zero x = omega arith
byte_small (suc k) x = let top : ℕ = x / 256 ^ suc k in mod_small top

bytes_small : (n x : ℕ) → IsBytes (bytes_high_first n x)
bytes_small zero x i = omega arith
bytes_small (suc n) x zero = byte_small n x
bytes_small (suc n) x (suc i) = bytes_small n x i

-- a key is read back
pub key_again : (n : ℕ) → n < 2 ^ 32 → hex_number 4 (encode_lower (big_bytes 4 n)) ≡ Some n
unfolding hex_number
key_again n h =
    let bytes : List ℕ = big_bytes 4 n in
    let len : length (encode_lower bytes) ≡ 8 = length-encode_with lower_digits bytes in
    rw (eq-eqb (length (encode_lower bytes)) 8 len) (rw (decode_of-encode_lower bytes (bytes_small 4 n)) (ap Some (big_number-reads_back 4 n [] h)))

-- a queue pair number is read back
pub queue_pair_again : (n : ℕ) → n < 2 ^ 24 → hex_number 3 (encode_lower (big_bytes 3 n)) ≡ Some n
unfolding hex_number
queue_pair_again n h =
    let bytes : List ℕ = big_bytes 3 n in
    let len : length (encode_lower bytes) ≡ 6 = length-encode_with lower_digits bytes in
    rw (eq-eqb (length (encode_lower bytes)) 6 len) (rw (decode_of-encode_lower bytes (bytes_small 3 n)) (ap Some (big_number-reads_back 3 n [] h)))

within : (low high n : ℕ) → low ≤ n → n ≤ high → (nat_le low n && nat_le n high) ≡ true
within low high n l h = grind (arith, nat_tests)

-- bytes are read back
pub bytes_again : (bytes : List ℕ) → IsBytes bytes → 1 ≤ length bytes → length bytes ≤ 4096 → bytes_of (encode_lower bytes) ≡ Some bytes
unfolding bytes_of
bytes_again bytes small some few =
    let len : length (encode_lower bytes) ≡ 2 * length bytes = length-encode_with lower_digits bytes in
    rw (within 2 8192 (length (encode_lower bytes)) (omega (arith, len)) (omega (arith, len))) (rw (decode_of-encode_lower bytes small) refl)
