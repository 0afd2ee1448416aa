use Rattle.std.proofs.Common.{◌-◌}
use Rattle.protocol.specs.Settle.{Settling}
use Rattle.settle_core.specs.Shown.{Shows}
use Rattle.settle_core.proofs.Visits.{OnWay}
use Rattle.settle_core.proofs.notes.Notes.send_all.Given as goal

abbrev pub invariant-loop-turn : goal.invariant-loop-turn
invariant-loop-turn l =
    (s : Settling) → Shows l.initial.world l.initial.self s → OnWay l.world l.self s l.end l.most (l.most - l.turn)
