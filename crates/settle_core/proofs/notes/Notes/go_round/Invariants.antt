use Rattle.std.proofs.Common.{◌≡◌, ◌-◌, ◌≤◌}
use Rattle.std.specs.Prelude.{IfSome}
use Rattle.world_core.specs.Lives.{live_list}
use Rattle.protocol.specs.Settle.{Settling}
use Rattle.settle_core.specs.Shown.{Shows}
use Rattle.settle_core.proofs.Goings.{Going}
use Rattle.settle_core.proofs.notes.Notes.go_round.Given as goal

abbrev pub invariant-loop-rounds : goal.invariant-loop-rounds
invariant-loop-rounds l =
    ((s : Settling) → Shows l.initial.world l.initial.self s → Going l.world l.self s l.fn.most (l.fn.most - l.rounds) l.rounds)
    × (l.rounds ≤ l.fn.most)
    × IfSome l.listed (λ ends. ends ≡ live_list l.world)
