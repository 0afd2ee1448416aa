-- A text cut at its first newline.
use Rattle.std.proofs.Common.{◌≡◌, ℕ, ◌+◌, ◌-◌, ◌<◌, ◌≤◌, ◌==◌, Bool, true, false, List, [], ◌∷◌, length, take, drop, Option, Some, None, nat_lt, if◌then◌else◌, refl, sym, ap, ◌∙◌, arith, length-drop}
use Rattle.std.specs.List.{position, position_or_len, slice_split}
use Rattle.std.proofs.lemmas.List.{take_all}
use Rattle.std.proofs.lemmas.List.Splits.{slice_split_first}
use Rattle.std.proofs.lemmas.Bool.Decides.{nat_tests}
use Rattle.script_lang.specs.Scripts.{is_newline}

-- the place of a newline that there is
record IsPlace (bs : List ℕ) (n : ℕ) : Type 0 where
  is : position_or_len is_newline bs ≡ n
  low : n < length bs

place : (bs : List ℕ) (n : ℕ) → position is_newline bs ≡ Some n → IsPlace bs n
place bs n h = by (nat_lt (position_or_len is_newline bs) (length bs)) refl
  where
    by : (b : Bool) → nat_lt (position_or_len is_newline bs) (length bs) ≡ b → IsPlace bs n
    by true e =
        let q : Some (position_or_len is_newline bs) ≡ Some n = rw e at h in
        let is : position_or_len is_newline bs ≡ n = cc in
        record { is = is; low = grind (arith, nat_tests) }
    by false e = let q : None ≡ Some n = rw e at h in cc

-- it is within the text
pub within : (bs : List ℕ) (n : ℕ) → position is_newline bs ≡ Some n → n < length bs
within bs n h = (place bs n h).low

-- the first line stands before it
pub cut_at : (bs : List ℕ) (n : ℕ) → position is_newline bs ≡ Some n → slice_split is_newline bs ≡ take n bs ∷ slice_split is_newline (take (length bs - (n + 1)) (drop (n + 1) bs))
cut_at bs n h =
    let p = place bs n h in
    let low : position_or_len is_newline bs < length bs = omega (arith, p.is, p.low) in
    let all : take (length bs - (n + 1)) (drop (n + 1) bs) ≡ drop (n + 1) bs = take_all (length bs - (n + 1)) (drop (n + 1) bs) (omega (arith, length-drop (n + 1) bs)) in
    slice_split_first is_newline bs 0 low ∙ ap (λ (k : ℕ). take k bs ∷ slice_split is_newline (drop (k + 1) bs)) p.is
    ∙ ap (λ (t : List ℕ). take n bs ∷ slice_split is_newline t) (sym all)

uncut_or : (b : ℕ) (bs : List ℕ) (at_end : Bool) → is_newline b ≡ at_end → (length bs ≤ position_or_len is_newline bs → slice_split is_newline bs ≡ bs ∷ []) → length (b ∷ bs) ≤ position_or_len is_newline (b ∷ bs) → slice_split is_newline (b ∷ bs) ≡ (b ∷ bs) ∷ []
uncut_or b bs true k rest h = let q = rw k at h in absurd (omega (arith, q))
uncut_or b bs false k rest h =
    let q = rw k at h in
    let r : length bs ≤ position_or_len is_newline bs = omega (arith, q) in
    rw k (rw (rest r) refl)

no_newline : (bs : List ℕ) → length bs ≤ position_or_len is_newline bs → slice_split is_newline bs ≡ bs ∷ []
no_newline [] h = refl
no_newline (b ∷ bs) h = uncut_or b bs (is_newline b) refl (no_newline bs) h

-- a text without one is one piece
pub uncut : (bs : List ℕ) → position is_newline bs ≡ None → slice_split is_newline bs ≡ bs ∷ []
uncut bs h = no_newline bs (by (nat_lt (position_or_len is_newline bs) (length bs)) refl)
  where
    by : (b : Bool) → nat_lt (position_or_len is_newline bs) (length bs) ≡ b → length bs ≤ position_or_len is_newline bs
    by true e = let q : Some (position_or_len is_newline bs) ≡ None = rw e at h in cc
    by false e = grind (arith, nat_tests)
