-- The five kinds of requests, and the completions of requests and receives (IBA chapters 10 and 11).
use Rattle.std.specs.Prelude.{ℕ, Bool, true, false, Option, None}
use Rattle.rdma_types.specs.declared.requests.Completion.{Completion}
use Rattle.rdma_types.specs.declared.requests.Kind.{Kind}
use Rattle.rdma_types.specs.declared.requests.Kind.TheVariants.{Write, Send, Read, CompareSwap, FetchAdd}
use Rattle.rdma_types.specs.declared.requests.Receive.{Receive}
use Rattle.rdma_types.specs.declared.requests.WcKind.{WcKind}
use Rattle.rdma_types.specs.declared.requests.WcKind.TheVariants as wc
use Rattle.rdma_types.specs.declared.requests.WcStatus.{WcStatus}
use Rattle.rdma_types.specs.Objects.{Posted}

-- its bytes are taken as it is posted (this project's choice)
abbrev pub takes_bytes : Kind → Bool
takes_bytes Write = true
takes_bytes Send = true
takes_bytes Read = false
takes_bytes CompareSwap = false
takes_bytes FetchAdd = false

-- bytes or an old value land in its local place, and it holds up acknowledgements until they have (IBA 9.7)
abbrev pub lands : Kind → Bool
lands Write = false
lands Send = false
lands Read = true
lands CompareSwap = true
lands FetchAdd = true

-- a Write
abbrev pub is_write : Kind → Bool
is_write Write = true
is_write Send = false
is_write Read = false
is_write CompareSwap = false
is_write FetchAdd = false

-- a Send
abbrev pub is_send : Kind → Bool
is_send Send = true
is_send Write = false
is_send Read = false
is_send CompareSwap = false
is_send FetchAdd = false

-- a Read
abbrev pub is_read : Kind → Bool
is_read Read = true
is_read Write = false
is_read Send = false
is_read CompareSwap = false
is_read FetchAdd = false

-- a compare and swap, or an addition
abbrev pub is_atomic : Kind → Bool
is_atomic CompareSwap = true
is_atomic FetchAdd = true
is_atomic Read = false
is_atomic Write = false
is_atomic Send = false

-- the kind of a posted request
abbrev pub kind_of : Posted → Kind
kind_of p = p.request.shape.kind

-- the length of a posted request
abbrev pub size_of : Posted → ℕ
size_of p = p.request.shape.length

-- ---- completions

-- the kind of completion of a request
abbrev pub completed_kind : Kind → WcKind
completed_kind Write = wc.Write
completed_kind Send = wc.Send
completed_kind Read = wc.Read
completed_kind CompareSwap = wc.CompareSwap
completed_kind FetchAdd = wc.FetchAdd

-- the completion of a request of the queue pair with that number
unfoldable pub request_done : ℕ → Posted → WcStatus → ℕ → Completion
request_done qp p status length = record { qp = qp; id = p.request.id; kind = completed_kind (kind_of p); status = status; length = length; imm = None }

-- the completion of a receive of the queue pair with that number
unfoldable pub receive_done : ℕ → Receive → WcKind → WcStatus → ℕ → Option ℕ → Completion
receive_done qp r kind status length imm = record { qp = qp; id = r.id; kind = kind; status = status; length = length; imm = imm }
