-- Two values that tell two things apart (this project's choice).
use Rattle.std.specs.Prelude.{◌≡◌, ◌≢◌, ℕ, Option, Some, None}

-- none where the things are equal, and two values that differ where the things do
abbrev pub TellsApart : {A : Type 0} → A → A → Option (ℕ × ℕ) → Type 0
TellsApart x y None = x ≡ y
TellsApart x y (Some p) = (p.0 ≢ p.1) × (x ≢ y)
