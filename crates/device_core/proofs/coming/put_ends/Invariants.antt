use Rattle.std.proofs.Common.{◌≡◌, ◌≤◌, ◌+◌, ℕ, length, take}
use Rattle.std.specs.Prelude.{nat_eq}
use Rattle.indexmap.specs.IndexMap.{get, spare}
use Rattle.device_core.specs.Coming.{numbers_of_ends}
use Rattle.device_core.specs.Leaving.{placed}
use Rattle.device_core.proofs.coming.put_ends.Given as goal

abbrev pub invariant-loop-place : goal.invariant-loop-place
invariant-loop-place l = record { room : length l.ends ≤ spare l.index + l.place; said : (k : ℕ) → get nat_eq l.index k ≡ placed l.name 0 (numbers_of_ends (take l.place l.ends)) k (get nat_eq l.initial.index k) }
