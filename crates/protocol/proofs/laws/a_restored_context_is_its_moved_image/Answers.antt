use Rattle.protocol.proofs.Moved.{moved_is, restored_is}
use Rattle.protocol.proofs.laws.a_restored_context_is_its_moved_image.Goals as goal

pub returns-clause-moved : goal.returns-clause-moved
returns-clause-moved c = moved_is

pub returns-clause-restored : goal.returns-clause-restored
returns-clause-restored c = restored_is
