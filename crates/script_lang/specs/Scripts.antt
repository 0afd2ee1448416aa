-- The lines of a script (this project's choice).
use Rattle.std.specs.Prelude.{ℕ, ◌-◌, ◌==◌, ◌&&◌, not, Bool, List, [], ◌∷◌, length, take, slice_index, if◌then◌else◌}
use Rattle.std.specs.List.{slice_split}

-- ends a line
abbrev pub is_newline : ℕ → Bool
is_newline b = b == 10

-- a line without the carriage return before its newline
abbrev pub without_return : List ℕ → List ℕ
without_return bs = if not (length bs == 0) && slice_index bs (length bs - 1) == 13 then take (length bs - 1) bs else bs

-- the lines of a text that newlines cut into these pieces; the last line may lack its newline, and then keeps its bytes
unfoldable pub lines_in : List (List ℕ) → List (List ℕ)
lines_in [] = []
lines_in (last ∷ []) = if length last == 0 then [] else last ∷ []
lines_in (piece ∷ next ∷ more) = without_return piece ∷ lines_in (next ∷ more)

-- the lines of a text, without their ends
unfoldable pub lines_of : List ℕ → List (List ℕ)
lines_of bs = lines_in (slice_split is_newline bs)

-- the pieces but the last one
unfoldable pub but_last : List (List ℕ) → List (List ℕ)
but_last [] = []
but_last (last ∷ []) = []
but_last (piece ∷ next ∷ more) = piece ∷ but_last (next ∷ more)

-- the lines of a text, each of which is ended by a newline
abbrev pub ended_lines : List ℕ → List (List ℕ)
ended_lines text = but_last (slice_split is_newline text)
