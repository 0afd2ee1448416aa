use Rattle.std.proofs.Common.{◌≡◌, take}
use Rattle.device_core.proofs.copying.copy_index.Given as goal

abbrev pub invariant-loop-i : goal.invariant-loop-i
invariant-loop-i l = l.copy.entries ≡ take l.i l.index.entries
