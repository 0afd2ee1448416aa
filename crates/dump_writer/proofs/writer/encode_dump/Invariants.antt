use Rattle.std.proofs.Common.{◌≡◌, ◌++◌, ℕ, List, length}
use Rattle.protocol.specs.declared.images.ContextImage.{ContextImage}
use Rattle.protocol.specs.Dumps.{dump_bytes}
use Rattle.dump_writer.specs.Writing.{Writing}
use Rattle.dump_writer.proofs.writer.encode_dump.Given as goal

-- the writer's image is the one to write, and the bytes so far and those that are left are its bytes
pub record IsOnTheWay (image : ContextImage) (writer : Writing) (dump : List ℕ) : Type 0 where
  pub same : writer.image ≡ image
  pub bytes : dump ++ writer.left ≡ dump_bytes 2 image

abbrev pub invariant-loop-writer : goal.invariant-loop-writer
invariant-loop-writer l = IsOnTheWay l.image l.writer l.dump.items

abbrev pub decreases-loop-writer : goal.decreases-loop-writer
decreases-loop-writer l = length l.writer.left
