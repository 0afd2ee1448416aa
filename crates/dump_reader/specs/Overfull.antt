-- What the queue pairs of an image will put into a completion queue.
use Rattle.std.specs.Prelude.{ℕ, ◌+◌, List, length, map, Option, Some, None, bytes_eq}
use Rattle.rdma_types.specs.declared.names.Name.{Name}
use Rattle.protocol.specs.declared.images.EndImage.{EndImage}
use Rattle.protocol.specs.declared.images.LinkImage.{LinkImage}
use Rattle.protocol.specs.declared.images.PostedImage.{PostedImage}
use Rattle.protocol.specs.declared.images.Progress.{Progress}
use Rattle.protocol.specs.declared.images.Progress.TheVariants as progress
use Rattle.protocol.specs.Images.{name_at}
use Rattle.protocol.specs.Refusals.{count_if}
use Rattle.dump_reader.specs.declared.heads.PlacedQueue.{PlacedQueue}

-- the name of the queue at a position
abbrev pub queue_at : List PlacedQueue → ℕ → Name
queue_at qs i = name_at (map (λ q. q.queue.name) qs) i

-- entries that the sends of a queue pair will take
abbrev pub uses_sends : Option LinkImage → List PostedImage → ℕ
uses_sends None ps = 0
uses_sends (Some l) ps = length ps

-- one for the receive that a message uses
abbrev pub in_message : Progress → ℕ
in_message progress.Idle = 0
in_message (progress.Send done receive) = 1
in_message (progress.Write region off length' done) = 0

-- the same of a queue pair
abbrev pub uses_receives : Option LinkImage → ℕ
uses_receives None = 0
uses_receives (Some l) = in_message l.progress

-- the entries that a queue pair will put into a queue
abbrev pub reserved_at : List PlacedQueue → Name → EndImage → ℕ
reserved_at qs name e =
    count_if (bytes_eq (queue_at qs e.send_cq) name) (uses_sends e.linked e.untold)
    + count_if (bytes_eq (queue_at qs e.recv_cq) name) (length e.unused + uses_receives e.linked)
