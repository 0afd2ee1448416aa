use Rattle.commands.proofs.Tales.{IsTale}
use Rattle.commands.proofs.telling.moved_text.Given as goal

abbrev pub invariant-loop-shifted : goal.invariant-loop-shifted
invariant-loop-shifted l = IsTale l.moved l.shifted-index l.text.items
