-- A line of words says what its words say.
use Rattle.std.proofs.Common.{◌≡◌, ℕ, ◌+◌, ◌≤◌, List, ◌∷◌, length, None, sym, subst}
use Rattle.script_lang.specs.declared.lines.Line.TheVariants as say
use Rattle.script_lang.specs.Lines.{bytes_offence, form_of, line_of, reading_of, reading_of_words}
use Rattle.workload_gen.specs.Lines.{line}
use Rattle.law_script_words.specs.Spoken.{AreWords, columned, spoken}
use Rattle.law_script_words.proofs.Spoken.{line_by, spoken_printable, words_fine, words_read}
use Rattle.law_scripts.proofs.Words.{AreShortWords, are_words, spoken_short}
use Rattle.law_scripts.proofs.Cutting.{IsGood, AreGoodLines, line_good}

-- these words say something
abbrev pub AreSaid : List (List ℕ) → Type 0
AreSaid words = (past : ℕ) → IsGood (reading_of_words say.Blank form_of line_of (columned 1 words) past)

words_say : (first : List ℕ) (ws : List (List ℕ)) → AreShortWords (first ∷ ws) → length ws ≤ 300 → AreSaid (first ∷ ws) → IsGood (reading_of (spoken first ws))
unfolding reading_of
words_say first ws a few says =
    let are : AreWords (first ∷ ws) = are_words (first ∷ ws) a in
    let fine : bytes_offence (spoken first ws) ≡ None = words_fine first ws are (spoken_short first ws a few) in
    rw (fine, words_read 1 first ws are) (says (length (spoken first ws) + 1))

-- a line of a few words that say something
pub words_good : (first : List ℕ) (ws : List (List ℕ)) → AreShortWords (first ∷ ws) → length ws ≤ 300 → AreSaid (first ∷ ws) → AreGoodLines (line first ws)
words_good first ws a few says =
    subst AreGoodLines (sym (line_by first ws))
    (line_good (spoken first ws) (spoken_printable first ws (are_words (first ∷ ws) a)) (words_say first ws a few says))
