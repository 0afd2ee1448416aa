use Rattle.dump_reader.specs.Groups.{message_field}
use Rattle.dump_reader.proofs.Latched.{first}
use Rattle.dump_reader.proofs.places.read_message.Goals as goal

pub returns : goal.returns
unfolding message_field
returns c = let code = rw c.most_unless.ensures at c.u8_up_to-code.ensures in first _ code c.read_progress.ensures
