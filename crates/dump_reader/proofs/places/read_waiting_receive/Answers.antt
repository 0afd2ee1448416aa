use Rattle.dump_reader.proofs.Latched.{group}
use Rattle.dump_reader.proofs.places.read_waiting_receive.Goals as goal

pub returns : goal.returns
returns c = group _ _ c.of-fields.ensures c.read_receive-receive.ensures c.end.ensures
