-- Words with spaces between them as a line of a trace, and texts that are cut into such lines.
use Rattle.std.proofs.Common.{◌≡◌, ℕ, ◌+◌, ◌≤◌, true, List, ◌∷◌, ◌++◌, length, refl, None}
use Rattle.std.specs.List.{list_all, slice_split}
use Rattle.std.proofs.lemmas.List.Splits.{slice_split_at}
use Rattle.script_lang.specs.Lines.{bytes_offence, is_printable, said, whole}
use Rattle.script_lang.specs.Scripts.{is_newline}
use Rattle.run_traces.specs.Lines.{trace_line, traced_reading}
use Rattle.law_script_words.specs.Spoken.{AreWords, columned, spoken}
use Rattle.law_script_words.proofs.Spoken.{no_newlines, words_fine, words_read}

-- a line of a trace that is a few words says what its words say
pub words_traced : (first : List ℕ) (ws : List (List ℕ)) → AreWords (first ∷ ws) → length (spoken first ws) ≤ 8400 → traced_reading (spoken first ws) ≡ said (whole trace_line (record { words = columned 1 (first ∷ ws); past = length (spoken first ws) + 1 }))
unfolding traced_reading
words_traced first ws a few =
    let fine : bytes_offence (spoken first ws) ≡ None = words_fine first ws a few in
    rw (fine, words_read 1 first ws a) refl

-- a text is cut behind a line of printable bytes
pub line_cut : (bs rest : List ℕ) → list_all is_printable bs ≡ true → slice_split is_newline (bs ++ 10 ∷ rest) ≡ bs ∷ slice_split is_newline rest
line_cut bs rest h = slice_split_at is_newline bs 10 rest (no_newlines bs h) refl
