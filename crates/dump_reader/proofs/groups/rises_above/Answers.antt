use Rattle.dump_reader.proofs.Seen.{rises_last}
use Rattle.dump_reader.proofs.groups.rises_above.Goals as goal

pub returns-in-len1-up : goal.returns-in-len1-up
returns-in-len1-up c = rises_last c.args.seen.now c.args.n _ c.in-len1-up.len_at_least
