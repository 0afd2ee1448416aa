use Rattle.context_core.proofs.RoomSizes.{room-for}
use Rattle.context_core.proofs.arriving.put.Goals as goal

pub write-bytes-requires-clause-room : goal.write-bytes-requires-clause-room
write-bytes-requires-clause-room c = room-for c.args.room.now _ _ c.requires.room c.requires.short
