use Rattle.std.proofs.Common.{◌≡◌, ◌++◌, drop}
use Rattle.serve_rules.specs.Moving.{leaving}
use Rattle.serve_engine.proofs.stopping.with_leaving.Given as goal

abbrev pub invariant-loop-end : goal.invariant-loop-end
invariant-loop-end l = l.numbers.items ++ leaving l.name (drop l.end-index l.ends) ≡ l.gone ++ leaving l.name l.ends
