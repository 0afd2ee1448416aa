use Rattle.std.proofs.Common.{take}
use Rattle.protocol.specs.Settle.{expire_visit, visiting}
use Rattle.settle_core.specs.Shown.{Settles}
use Rattle.settle_core.proofs.notes.Notes.expire_each.Given as goal

abbrev pub invariant-loop-end : goal.invariant-loop-end
invariant-loop-end l =
    Settles (λ s. visiting expire_visit s (take l.end-index l.ends)) l.initial.world l.initial.self l.world l.self
