use Rattle.std.proofs.Common.{◌-◌, ◌≤◌}
use Rattle.settle_core.specs.Shown.{Settles}
use Rattle.settle_core.specs.Steps.{sweeping}
use Rattle.settle_core.proofs.notes.Notes.sweep.Given as goal

abbrev pub invariant-loop-k : goal.invariant-loop-k
invariant-loop-k l =
    Settles (λ s. sweeping s l.fn.first (l.k - l.fn.first)) l.initial.world l.initial.self l.world l.self
    × (l.k - l.fn.first ≤ l.fn.end - l.fn.first)
