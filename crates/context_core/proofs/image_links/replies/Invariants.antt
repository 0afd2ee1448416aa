use Rattle.std.proofs.Common.{◌≡◌, take}
use Rattle.context_core.proofs.image_links.replies.Given as goal

abbrev pub invariant-loop-i : goal.invariant-loop-i
invariant-loop-i l = l.replies.items ≡ take l.i l.kept
