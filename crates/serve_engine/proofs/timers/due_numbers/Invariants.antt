use Rattle.std.proofs.Common.{◌≡◌, ◌++◌, drop}
use Rattle.serve_rules.specs.Turns.{due_in}
use Rattle.serve_engine.proofs.timers.due_numbers.Given as goal

abbrev pub invariant-loop-place : goal.invariant-loop-place
invariant-loop-place l = l.due.items ++ due_in l.now (drop l.place l.timers.entries) ≡ due_in l.now l.timers.entries
