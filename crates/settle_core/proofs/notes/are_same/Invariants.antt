use Rattle.std.proofs.Common.{◌≡◌, map, length, drop}
use Rattle.protocol.specs.Settle.{same_marks}
use Rattle.settle_core.specs.Marks.{view_mark}
use Rattle.settle_core.proofs.notes.are_same.Given as goal

abbrev pub invariant-loop-i : goal.invariant-loop-i
invariant-loop-i l =
    (length l.before ≡ length l.after)
    × (same_marks (map view_mark (drop l.i l.before)) (map view_mark (drop l.i l.after)) ≡ same_marks (map view_mark l.before) (map view_mark l.after))
