use Rattle.std.proofs.Common.{◌≡◌, ◌++◌, drop, map}
use Rattle.serve_engine.proofs.restoring.with_numbers.Given as goal

abbrev pub invariant-loop-end : goal.invariant-loop-end
invariant-loop-end l = l.numbers.items ++ map (λ e. e.number) (drop l.end-index l.ends) ≡ l.ready.items ++ map (λ e. e.number) l.ends
