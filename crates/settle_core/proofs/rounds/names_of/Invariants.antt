use Rattle.std.proofs.Common.{◌≡◌, map, take}
use Rattle.context_core.specs.declared.lives.LiveEnd.{LiveEnd}
use Rattle.settle_core.proofs.rounds.names_of.Given as goal

abbrev pub invariant-loop-end : goal.invariant-loop-end
invariant-loop-end l =
    l.names.items ≡ map (λ (e : LiveEnd). e.name) (take l.end-index l.ends)
