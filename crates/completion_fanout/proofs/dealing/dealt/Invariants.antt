use Rattle.std.proofs.Common.{◌≡◌, take}
use Rattle.completion_fanout.specs.Fanned.{dealt_to}
use Rattle.completion_fanout.proofs.dealing.dealt.Given as goal

abbrev pub invariant-loop-k : goal.invariant-loop-k
invariant-loop-k l = l.entries.items ≡ dealt_to l.consumers l.i 0 (take l.k l.completions)
