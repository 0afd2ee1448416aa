use Rattle.std.proofs.Common.{◌≡◌, take}
use Rattle.context_core.proofs.links.kept_of.Given as goal

abbrev pub invariant-loop-reply : goal.invariant-loop-reply
invariant-loop-reply l = l.kept ≡ take l.reply-index l.images
