use Rattle.std.proofs.Common.{◌≡◌, ℕ, take}
use Rattle.std.specs.Prelude.{nat_eq}
use Rattle.indexmap.specs.IndexMap.{get}
use Rattle.device_core.specs.Index.{numbers_in, without_numbers}
use Rattle.device_core.proofs.moving.drop_entries.Given as goal

abbrev pub invariant-loop-entry : goal.invariant-loop-entry
invariant-loop-entry l = (k : ℕ) → get nat_eq l.index k ≡ without_numbers (numbers_in (take l.entry-index l.entries)) k (get nat_eq l.initial.index k)
