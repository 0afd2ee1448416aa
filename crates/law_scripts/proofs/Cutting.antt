-- Whole lines before a text, whose lines are then good where those of the text are.
use Rattle.std.proofs.Common.{◌≡◌, ℕ, ◌-◌, ◌<◌, ◌==◌, true, false, List, [], ◌∷◌, ◌++◌, length, get_or, Result, Ok, Err, refl, sym, ap, ◌∙◌, append_assoc, arith, subst}
use Rattle.std.specs.List.{list_all, slice_split}
use Rattle.std.proofs.lemmas.Bool.Decides.{nat_tests}
use Rattle.std.proofs.lemmas.List.{append-nil}
use Rattle.std.proofs.lemmas.List.Splits.{slice_split_at, length-slice_split}
use Rattle.std.proofs.lemmas.List.Sums.{AllPass-from_list_all}
use Rattle.script_lang.specs.Lines.{is_printable, reading_of}
use Rattle.script_lang.specs.Scripts.{is_newline, without_return, lines_in, lines_of}
use Rattle.law_script_words.proofs.Spoken.{no_newlines}

-- there is a value
abbrev pub IsGood : {A E : Type 0} → Result A E → Type 0
IsGood (Ok value) = Unit {0}
IsGood (Err e) = ⊥

-- each of these lines says something
abbrev pub AreGood : List (List ℕ) → Type 0
AreGood [] = Unit {0}
AreGood (bs ∷ more) = IsGood (reading_of bs) × AreGood more

-- whole lines, all of which are good
abbrev pub AreGoodLines : List ℕ → Type 0
AreGoodLines text = (rest : List ℕ) → AreGood (lines_of rest) → AreGood (lines_of (text ++ rest))

-- ---- several lines

-- no lines
pub none_good : AreGoodLines []
none_good = λ rest h. h

-- lines, and lines behind them
pub both_good : (one two : List ℕ) → AreGoodLines one → AreGoodLines two → AreGoodLines (one ++ two)
both_good one two a b = λ rest h. subst (λ (text : List ℕ). AreGood (lines_of text)) (sym (append_assoc one two rest)) (a (two ++ rest) (b rest h))

no_lines : AreGood (lines_of [])
unfolding lines_of lines_in
no_lines = tt

-- the lines of a text that is whole lines
pub all_good : (text : List ℕ) → AreGoodLines text → AreGood (lines_of text)
all_good text a = subst (λ (t : List ℕ). AreGood (lines_of t)) (append-nil text) (a [] no_lines)

-- ---- one line

printable_no_return : (b : ℕ) → is_printable b ≡ true → (b == 13) ≡ false
printable_no_return b h = grind (arith, nat_tests)

no_return : (bs : List ℕ) → list_all is_printable bs ≡ true → without_return bs ≡ bs
no_return [] h = refl
no_return (b ∷ bs) h =
    let at : length (b ∷ bs) - 1 < length (b ∷ bs) = omega arith in
    let e : (get_or (b ∷ bs) (length (b ∷ bs) - 1) 0 == 13) ≡ false = printable_no_return _ (AllPass-from_list_all is_printable (b ∷ bs) h (length (b ∷ bs) - 1) 0 at) in
    let some : (length (b ∷ bs) == 0) ≡ false = grind (arith, nat_tests) in
    rw (some, e) refl

cut : (piece : List ℕ) (pieces : List (List ℕ)) → 0 < length pieces → lines_in (piece ∷ pieces) ≡ without_return piece ∷ lines_in pieces
unfolding lines_in
cut piece [] h = absurd (omega arith)
cut piece (next ∷ more) h = refl

line_cut : (bs rest : List ℕ) → list_all is_printable bs ≡ true → lines_of (bs ++ 10 ∷ rest) ≡ bs ∷ lines_of rest
unfolding lines_of
line_cut bs rest h =
    let some : 0 < length (slice_split is_newline rest) = omega (arith, length-slice_split is_newline rest) in
    ap lines_in (slice_split_at is_newline bs 10 rest (no_newlines bs h) refl)
    ∙ cut bs (slice_split is_newline rest) some
    ∙ ap (λ (z : List ℕ). z ∷ lines_in (slice_split is_newline rest)) (no_return bs h)

-- printable bytes that say something, and a newline
pub line_good : (bs : List ℕ) → list_all is_printable bs ≡ true → IsGood (reading_of bs) → AreGoodLines (bs ++ 10 ∷ [])
line_good bs h good = λ rest more.
    subst (λ (text : List ℕ). AreGood (lines_of text)) (sym (append_assoc bs (10 ∷ []) rest))
    (subst AreGood (sym (line_cut bs rest h)) (good, more))
