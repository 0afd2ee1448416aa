use Rattle.std.proofs.Common.{◌≡◌, ℕ, take}
use Rattle.std.specs.Prelude.{nat_eq}
use Rattle.indexmap.specs.IndexMap.{get}
use Rattle.device_core.specs.Index.{numbers_in}
use Rattle.device_core.specs.Leaving.{placed}
use Rattle.device_core.proofs.leaving.move_entries.Given as goal

abbrev pub invariant-loop-place : goal.invariant-loop-place
invariant-loop-place l = (k : ℕ) → get nat_eq l.index k ≡ placed l.name 0 (numbers_in (take l.place l.entries)) k (get nat_eq l.initial.index k)
