-- The words of `evacuate`, as the code reads them.
use Rattle.std.specs.Prelude.{ℕ, List, length, nat_le, Option, Some, None, if◌then◌else◌}
use Rattle.arrayvec.specs.ArrayVec.{ArrayVec}
use Rattle.program_rules.specs.Commands as rules

-- the ids that were read
abbrev pub told_ids : Option (ArrayVec ℕ) → Option (List ℕ)
told_ids None = None
told_ids (Some v) = Some v.items

-- no more ids than a device and 15 targets
abbrev pub few_ids : List (List ℕ) → Option (List ℕ)
few_ids words = if nat_le (length words) 16 then rules.ids_of words else None
