-- The line that sums up a run of a script.
use Rattle.std.specs.Prelude.{ℕ, Bool, ◌==◌, ◌&&◌, List, [], ◌∷◌, codes, nat_eq, drop, count_by, if◌then◌else◌}
use Rattle.std.specs.List.{slice_split, after_first, starts_with}
use Rattle.std.specs.Fmt.{decimal}
use Rattle.workload_gen.specs.Lines.{line}

abbrev pub is_newline : ℕ → Bool
is_newline b = b == 10

abbrev pub is_space : ℕ → Bool
is_space b = b == 32

-- all parts but the last
unfoldable pub but_last : List (List ℕ) → List (List ℕ)
but_last [] = []
but_last (part ∷ []) = []
but_last (part ∷ next ∷ parts) = part ∷ but_last (next ∷ parts)

-- the lines of a text: each part that a newline ends
abbrev pub lines_of : List ℕ → List (List ℕ)
lines_of text = but_last (slice_split is_newline text)

-- how many lines a text has
abbrev pub line_count : List ℕ → ℕ
line_count text = count_by is_newline text

-- a line on a completion
unfoldable pub is_completion : List ℕ → Bool
is_completion l = starts_with nat_eq l (codes "wc ")

-- what follows the first word of a line
abbrev pub after_word : List ℕ → List ℕ
after_word l = after_first is_space l

-- a line on a completion whose fifth word, the status, is 0
unfoldable pub is_success : List ℕ → Bool
is_success l = is_completion l && starts_with nat_eq (after_word (after_word (after_word (after_word l)))) (codes "0 ")

-- a line on what a settling left
unfoldable pub is_quiet : List ℕ → Bool
is_quiet l = starts_with nat_eq l (codes "quiet ")

-- the number of the last line on what a settling left, or the number before, where there is none
unfoldable pub left_in : List ℕ → List (List ℕ) → List ℕ
left_in before [] = before
left_in before (l ∷ ls) = left_in (if is_quiet l then drop 6 l else before) ls

-- the summary of a script and of the text of its answers
unfoldable pub summary : List ℕ → List ℕ → List ℕ
summary script text =
    line (codes "bulk") (codes "lines" ∷ decimal (line_count script)
    ∷ codes "completions" ∷ decimal (count_by is_completion (lines_of text))
    ∷ codes "success" ∷ decimal (count_by is_success (lines_of text))
    ∷ codes "left" ∷ left_in (codes "0") (lines_of text) ∷ [])
