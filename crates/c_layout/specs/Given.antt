-- What is written to memory of the caller's.
use Rattle.std.specs.Prelude.{ℕ, List, ◌++◌, length, take, drop, min, Option, Some, None}

-- as much of a list as a buffer has room for, and what the buffer had behind it
abbrev pub overlaid : {X : Type 0} → List X → List X → List X
overlaid xs old = let n = min (length old) (length xs) in take n xs ++ drop n old

-- the result where something may be there: 0, or 4 where nothing is
abbrev pub found_result : {X : Type 0} → Option X → ℕ
found_result None = 4
found_result (Some x) = 0

-- what the caller then has
abbrev pub found : {X : Type 0} → Option X → X → X
found None old = old
found (Some x) old = x
