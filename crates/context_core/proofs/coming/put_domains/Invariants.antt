use Rattle.std.proofs.Common.{◌≡◌, take}
use Rattle.context_core.proofs.coming.put_domains.Given as goal

abbrev pub invariant-loop-name : goal.invariant-loop-name
invariant-loop-name l = l.domains.keys ≡ take l.name-index l.names
