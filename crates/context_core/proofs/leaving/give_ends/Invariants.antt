use Rattle.std.proofs.Common.{length}
use Rattle.context_core.specs.Context.{posted_of}
use Rattle.context_core.proofs.ReleasedPayloads.{IsGiving}
use Rattle.context_core.proofs.leaving.give_ends.Given as goal

abbrev pub invariant-loop-slot : goal.invariant-loop-slot
invariant-loop-slot l = IsGiving l.initial.pool l.pool (posted_of l.initial.ends.entries) (posted_of l.ends.entries)

abbrev pub decreases-loop-slot : goal.decreases-loop-slot
decreases-loop-slot l = length l.ends.entries
