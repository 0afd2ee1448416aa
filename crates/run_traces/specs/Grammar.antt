-- The grammar of traces, line by line, and what reading has to do with it (this project's choice).
use Rattle.std.specs.Prelude.{ℕ, ◌≡◌, ◌≤◌, ◌+◌, ◌↔◌, map, true, is_some, List, [], ◌∷◌, ◌++◌, length, Ok, Err, codes}
use Rattle.std.specs.List.{slice_split}
use Rattle.script_lang.specs.declared.lines.Offence.{Offence}
use Rattle.script_lang.specs.Scripts.{is_newline}
use Rattle.run_traces.specs.declared.trace_audit.lines.TraceLine.TheVariants as line
use Rattle.run_traces.specs.Answers.{answer_of_line}
use Rattle.run_traces.specs.Lines.{traced_reading}
use Rattle.run_traces.specs.Traces.{Traced, Spoken, Made, trace_of}

-- a text of a line of an answer, with its mark
abbrev pub marked : List ℕ → List ℕ
marked text = codes "= " ++ text

-- each text is a line of an answer to some verb
abbrev pub AreAnswers : List (List ℕ) → Type 0
AreAnswers [] = Unit {0}
AreAnswers (t ∷ ts) = (is_some (answer_of_line t) ≡ true) × AreAnswers ts

-- the lines say these steps, one after the other, and the last of them is `end`
abbrev pub AreLinesOf : List Traced → List (List ℕ) → Type 0
AreLinesOf [] ls = (l : List ℕ) × (ls ≡ l ∷ []) × (traced_reading l ≡ Ok line.End)
AreLinesOf (Made s ∷ ts) ls = (l : List ℕ) × (rest : List (List ℕ)) × (ls ≡ l ∷ rest) × (traced_reading l ≡ Ok (line.Step s)) × AreLinesOf ts rest
AreLinesOf (Spoken v texts ∷ ts) ls =
    (l : List ℕ) × (rest : List (List ℕ)) × (ls ≡ l ∷ (map marked texts ++ rest)) × (traced_reading l ≡ Ok (line.Verb v))
    × (1 ≤ length texts) × AreAnswers texts × AreLinesOf ts rest

-- a text is a trace of these steps: newlines cut it into lines that say them, and nothing stands behind the last newline
pub record IsTrace (bs : List ℕ) (ts : List Traced) : Type 0 where
  pub lines : List (List ℕ)
  pub cut : slice_split is_newline bs ≡ lines ++ [] ∷ []
  pub say : AreLinesOf ts lines

-- the law of reading: what is read is a trace of these steps, and each trace is read so; so a bad line is named exactly
-- where a text is no trace
abbrev pub TracesAreRead : Type 0
TracesAreRead = (bs : List ℕ) (ts : List Traced) → (trace_of bs ≡ Ok ts) ↔ IsTrace bs ts

-- the lines can go on to those of a trace
abbrev pub CanGoOn : List (List ℕ) → Type 0
CanGoOn prefix = (more : List (List ℕ)) × (ts : List Traced) × AreLinesOf ts (prefix ++ more)

-- the law of bad lines: line number k is the first with which a text can not go on to a trace, or it is its last and lacks
-- what must follow
pub record IsFirstBad (bs : List ℕ) (k : ℕ) : Type 0 where
  pub prefix : List (List ℕ)
  pub here : List ℕ
  pub rest : List (List ℕ)
  pub cut : slice_split is_newline bs ≡ prefix ++ here ∷ rest
  pub number : k ≡ length prefix + 1
  pub goes_on : CanGoOn prefix
  pub stops : 1 ≤ length rest → CanGoOn (prefix ++ here ∷ []) → ⊥

-- of every text
abbrev pub FirstIsNamed : Type 0
FirstIsNamed = (bs : List ℕ) (k : ℕ) (e : Offence) → trace_of bs ≡ Err (k, e) → IsFirstBad bs k
