use Rattle.law_simulation.proofs.repeated_reads.repeated_reads_follow.Goals as goal

pub returns : goal.returns
returns c = c.rereads_are_taken.ensures
