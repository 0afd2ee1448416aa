use Rattle.std.proofs.Common.{◌≡◌, drop}
use Rattle.node_rules.specs.Serve.{dated}
use Rattle.node_engine.proofs.activity.date.Given as goal

abbrev pub invariant-loop-number : goal.invariant-loop-number
invariant-loop-number l = dated l.now (drop l.number-index l.active) l.moments.entries ≡ dated l.now l.active l.initial.moments.entries
