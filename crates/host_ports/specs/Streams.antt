use Rattle.std.specs.Prelude.{ℕ, ◌≡◌, ◌<◌, ◌≤◌, ◌⊎◌, ◌^◌, ◌-◌, List, [], ◌++◌, length, drop, Option, None, Some}

-- a count of faults rose, or stands at the last value that a u64 has
abbrev pub FaultsCounted : ℕ → ℕ → Type 0
FaultsCounted old new = (old < new) ⊎ (2 ^ 64 - 1 ≤ new)

-- these bytes were taken from the start of what was left, where that is told
abbrev pub Takes : Option (List ℕ) → Option (List ℕ) → List ℕ → Type 0
Takes None new taken = new ≡ None
Takes (Some left) new taken = (rest : List ℕ) × (left ≡ taken ++ rest) × (new ≡ Some rest)

-- these bytes are all that was left, where that is told, and none is left
abbrev pub TakesAll : Option (List ℕ) → Option (List ℕ) → List ℕ → Type 0
TakesAll None new taken = new ≡ None
TakesAll (Some left) new taken = (taken ≡ left) × (new ≡ Some [])

-- that many bytes were taken from the start of what was left, where that is told
abbrev pub TakesCount : Option (List ℕ) → Option (List ℕ) → ℕ → Type 0
TakesCount None new n = new ≡ None
TakesCount (Some left) new n = (n ≤ length left) × (new ≡ Some (drop n left))

-- nothing is left, where that is told
abbrev pub IsAtEnd : Option (List ℕ) → Type 0
IsAtEnd None = Unit {0}
IsAtEnd (Some left) = left ≡ []

-- these bytes were put behind what was held, where that is told
abbrev pub Puts : Option (List ℕ) → Option (List ℕ) → List ℕ → Type 0
Puts None new bytes = new ≡ None
Puts (Some held) new bytes = new ≡ Some (held ++ bytes)
