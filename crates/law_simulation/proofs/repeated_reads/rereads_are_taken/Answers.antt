use Rattle.law_simulation.proofs.repeated_reads.Rereads.{are_rereads}
use Rattle.law_simulation.proofs.repeated_reads.rereads_are_taken.Goals as goal

pub returns : goal.returns
returns c = are_rereads
