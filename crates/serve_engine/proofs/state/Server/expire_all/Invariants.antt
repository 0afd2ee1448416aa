use Rattle.std.proofs.Common.{◌≡◌, drop}
use Rattle.serve_rules.specs.Turns.{all_expired}
use Rattle.serve_engine.proofs.state.Server.expire_all.Given as goal

abbrev pub invariant-loop-number : goal.invariant-loop-number
invariant-loop-number l = all_expired l.self (drop l.number-index l.due) ≡ all_expired l.initial.self l.due
