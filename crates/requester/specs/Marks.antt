-- Places in a queue of requests, with how many numbers the requests before them take.
use Rattle.std.specs.Prelude.{ℕ, suc, ◌≡◌, ◌<◌, ◌≤◌, List, length}
use Rattle.rdma_types.specs.Objects.{Posted}
use Rattle.rdma_types.specs.Spans.{first_number}
use Rattle.requester.specs.declared.marks.Mark.{Mark}

-- the mark is one of these requests, or the end of them, and knows the numbers before it
pub record IsMark (ps : List Posted) (mtu : ℕ) (m : Mark) : Type 0 where
  pub within : m.index ≤ length ps
  pub offset : m.offset ≡ first_number ps mtu m.index

-- the mark is one of the requests, and this is the first number behind those of its request, unless it is not past the mark
pub record IsPast (ps : List Posted) (mtu : ℕ) (m : Mark) (past : ℕ) : Type 0 where
  pub within : m.offset < past → m.index < length ps
  pub number : m.offset < past → past ≡ first_number ps mtu (suc m.index)
