use Rattle.std.proofs.Common.{◌≡◌, take}
use Rattle.context_core.proofs.copies.copy_domains.Given as goal

abbrev pub invariant-loop-i : goal.invariant-loop-i
invariant-loop-i l = l.copy.keys ≡ take l.i l.domains.keys
