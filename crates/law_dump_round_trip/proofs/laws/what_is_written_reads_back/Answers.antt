use Rattle.law_dump_round_trip.proofs.BackWhole.{written_back}
use Rattle.law_dump_round_trip.proofs.laws.what_is_written_reads_back.Goals as goal

pub returns : goal.returns
returns c = written_back
