use Rattle.std.proofs.Common.{◌≡◌, ◌+◌, ◌-◌, ◌≤◌, drop, length}
use Rattle.std.specs.List.{prefix_len}
use Rattle.fabric.specs.Store.{is_settled}
use Rattle.fabric.proofs.unsettled_from.Given as goal

abbrev pub invariant-loop-place : goal.invariant-loop-place
invariant-loop-place l =
    (l.place ≤ length l.ring.items)
    × (l.place + prefix_len is_settled (drop l.place l.ring.items) ≡ l.from + prefix_len is_settled (drop l.from l.ring.items))

abbrev pub decreases-loop-place : goal.decreases-loop-place
decreases-loop-place l = length l.ring.items - l.place
