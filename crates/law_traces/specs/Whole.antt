-- The record of a script is all that it must be.
use Rattle.std.specs.Prelude.{ℕ, ◌≡◌, List, Ok}
use Rattle.trace_rules.specs.Recording.{IsRecord, Written, recorded_of, traced_of}
use Rattle.law_traces.specs.Said.{AreShort}

-- whatever script is recorded, where the numbers of its inner steps have 32 bits
abbrev pub RecordsAreWhole : Type 0
RecordsAreWhole = (script : List ℕ) (ls : List Written) → recorded_of script ≡ Ok ls → AreShort (traced_of ls) → IsRecord ls
