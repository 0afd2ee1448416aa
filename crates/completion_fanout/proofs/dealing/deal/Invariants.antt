use Rattle.completion_fanout.proofs.Dealt.{AreDealt}
use Rattle.completion_fanout.proofs.dealing.deal.Given as goal

abbrev pub invariant-loop-i : goal.invariant-loop-i
invariant-loop-i l = AreDealt l.consumers l.i l.completions l.lists.items
