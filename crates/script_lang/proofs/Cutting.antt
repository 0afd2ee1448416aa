-- The lines of a text, taken one at a time.
use Rattle.std.proofs.Common.{◌≡◌, ℕ, ◌+◌, ◌-◌, ◌<◌, ◌==◌, Bool, true, false, List, [], ◌∷◌, Some, None, length, take, drop, refl, ap, ◌∙◌, arith, length-drop}
use Rattle.std.proofs.lemmas.List.{take_all}
use Rattle.std.specs.List.{slice_split, position_or_len, before_first, after_first}
use Rattle.std.proofs.lemmas.Bool.{false_from_ne_true}
use Rattle.std.proofs.lemmas.Bool.Decides.{nat_tests}
use Rattle.std.proofs.lemmas.List.Sums.{position_or_len_is}
use Rattle.std.proofs.lemmas.List.Splits.{slice_split_first, length-slice_split}
use Rattle.memchr.specs.Find.{IsFirstByte, is_byte}
use Rattle.script_lang.specs.Scripts.{is_newline, without_return, lines_in, lines_of}

no_lines : lines_of [] ≡ []
unfolding lines_of lines_in
no_lines = refl

-- no bytes, no lines
pub no_lines_in : (bs : List ℕ) → length bs ≡ 0 → lines_of bs ≡ []
no_lines_in [] h = no_lines
no_lines_in (b ∷ bs) h = absurd (omega arith)

cut : (piece : List ℕ) (pieces : List (List ℕ)) → 0 < length pieces → lines_in (piece ∷ pieces) ≡ without_return piece ∷ lines_in pieces
unfolding lines_in
cut piece [] h = absurd (omega arith)
cut piece (next ∷ more) h = refl

-- the first line ends at the first newline
line_at_newline : (bs : List ℕ) → position_or_len is_newline bs < length bs → lines_of bs ≡ without_return (take (position_or_len is_newline bs) bs) ∷ lines_of (drop (position_or_len is_newline bs + 1) bs)
unfolding lines_of
line_at_newline bs h =
    let rest : List ℕ = after_first is_newline bs in
    let some : 0 < length (slice_split is_newline rest) = omega (arith, length-slice_split is_newline rest) in
    ap lines_in (slice_split_first is_newline bs 0 h) ∙ cut (before_first is_newline bs) (slice_split is_newline rest) some

uncut_or : (b : ℕ) (bs : List ℕ) (at_end : Bool) → is_newline b ≡ at_end → (position_or_len is_newline bs ≡ length bs → slice_split is_newline bs ≡ bs ∷ []) → position_or_len is_newline (b ∷ bs) ≡ length (b ∷ bs) → slice_split is_newline (b ∷ bs) ≡ (b ∷ bs) ∷ []
uncut_or b bs true k rest h = let q = rw k at h in absurd (omega (arith, q))
uncut_or b bs false k rest h =
    let q = rw k at h in
    let r : position_or_len is_newline bs ≡ length bs = omega (arith, q) in
    rw k (rw (rest r) refl)

uncut : (bs : List ℕ) → position_or_len is_newline bs ≡ length bs → slice_split is_newline bs ≡ bs ∷ []
uncut [] h = refl
uncut (b ∷ bs) h = uncut_or b bs (is_newline b) refl (uncut bs) h

last_kept : (bs : List ℕ) → 0 < length bs → lines_in (bs ∷ []) ≡ bs ∷ lines_of []
unfolding lines_in lines_of
last_kept bs h =
    let e : (length bs == 0) ≡ false = grind (arith, nat_tests) in
    rw e refl

whole_line : (bs : List ℕ) → 0 < length bs → position_or_len is_newline bs ≡ length bs → lines_of bs ≡ bs ∷ lines_of []
unfolding lines_of
whole_line bs l h = ap lines_in (uncut bs h) ∙ last_kept bs l

-- a search for the first newline finds the place where the first line ends
newline_place : (bs : List ℕ) (n : ℕ) → IsFirstByte (is_byte 10) bs (Some n) → position_or_len is_newline bs ≡ n
newline_place bs n h = position_or_len_is is_newline bs n 0 (omega (arith, h.0.high)) (λ k l. false_from_ne_true _ (h.0.before k (omega arith) l)) (λ _. h.1)

-- the first line ends before the first newline, and the rest is all behind it
pub line_before : (bs : List ℕ) (n : ℕ) → IsFirstByte (is_byte 10) bs (Some n) → lines_of bs ≡ without_return (take n bs) ∷ lines_of (take (length bs - (n + 1)) (drop (n + 1) bs))
line_before bs n h =
    let at : position_or_len is_newline bs ≡ n = newline_place bs n h in
    let below : position_or_len is_newline bs < length bs = omega (arith, h.0.high) in
    let len : length (drop (n + 1) bs) ≡ length bs - (n + 1) = length-drop (n + 1) bs in
    let all : take (length bs - (n + 1)) (drop (n + 1) bs) ≡ drop (n + 1) bs = take_all _ _ (omega arith) in
    line_at_newline bs below ∙ rw (at, all) refl

-- the last line may lack its newline
pub last_line : (bs : List ℕ) → IsFirstByte (is_byte 10) bs None → 0 < length bs → lines_of bs ≡ bs ∷ lines_of []
last_line bs h l = whole_line bs l (position_or_len_is is_newline bs (length bs) 0 (omega arith) (λ k i. false_from_ne_true _ (h k (omega arith) i)) (λ i. absurd (omega arith)))
