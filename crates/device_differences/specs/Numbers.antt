-- Plain values as lists of numbers, in the order of their fields; a flag and a variant have codes. This project's choice.
use Rattle.std.specs.Prelude.{ℕ, Bool, true, false, List, [], ◌∷◌, Option, Some, None}
use Rattle.rdma_types.specs.declared.requests.Address.{Address}
use Rattle.rdma_types.specs.declared.requests.Completion.{Completion}
use Rattle.rdma_types.specs.declared.requests.Kind.{Kind}
use Rattle.rdma_types.specs.declared.requests.Kind.TheVariants as kind
use Rattle.rdma_types.specs.declared.requests.Receive.{Receive}
use Rattle.rdma_types.specs.declared.requests.Request.{Request}
use Rattle.rdma_types.specs.declared.requests.Terms.{Terms}
use Rattle.rdma_types.specs.declared.requests.WcKind.{WcKind}
use Rattle.rdma_types.specs.declared.requests.WcKind.TheVariants as wc
use Rattle.rdma_types.specs.declared.requests.WcStatus.{WcStatus}
use Rattle.rdma_types.specs.declared.requests.WcStatus.TheVariants as status
use Rattle.rdma_types.specs.Objects.{Region}
use Rattle.protocol.specs.declared.images.KeptReply.{KeptReply}
use Rattle.protocol.specs.State.{Device, HuskEntry, Link, Moving, Phase, Running, Paused, Resuming, Progress, NoMessage, InSend, InWrite, Receiver, Sender}

-- ---- codes

-- a flag
abbrev pub flag : Bool → ℕ
flag false = 0
flag true = 1

-- whether a number is there
abbrev pub has_number : Option ℕ → ℕ
has_number None = 0
has_number (Some n) = 1

-- the number that may be there, and else 0
abbrev pub number_in : Option ℕ → ℕ
number_in None = 0
number_in (Some n) = n

-- the kind of a request
abbrev pub kind_code : Kind → ℕ
kind_code kind.Write = 0
kind_code kind.Send = 1
kind_code kind.Read = 2
kind_code kind.CompareSwap = 3
kind_code kind.FetchAdd = 4

-- the kind of a completion
abbrev pub wc_kind_code : WcKind → ℕ
wc_kind_code wc.Write = 0
wc_kind_code wc.Send = 1
wc_kind_code wc.Read = 2
wc_kind_code wc.CompareSwap = 3
wc_kind_code wc.FetchAdd = 4
wc_kind_code wc.Recv = 5
wc_kind_code wc.RecvImm = 6

-- how work ended, by its number in the InfiniBand Architecture Specification
abbrev pub status_code : WcStatus → ℕ
status_code status.Success = 0
status_code status.LocalLength = 1
status_code status.Flush = 5
status_code status.RemoteInvalid = 9
status_code status.RemoteAccess = 10
status_code status.RetryExceeded = 12
status_code status.RnrExceeded = 13

-- a phase of moving
abbrev pub phase_code : Phase → ℕ
phase_code Running = 0
phase_code Paused = 1
phase_code Resuming = 2

-- ---- lists of numbers

-- a receive
abbrev pub numbers_of_receive : Receive → List ℕ
numbers_of_receive r = r.id ∷ r.lkey ∷ r.local ∷ r.length ∷ []

-- a request
abbrev pub numbers_of_request : Request → List ℕ
numbers_of_request r =
    r.id
    ∷ kind_code r.shape.kind
    ∷ r.shape.length
    ∷ r.shape.remote
    ∷ r.shape.rkey
    ∷ has_number r.shape.imm
    ∷ number_in r.shape.imm
    ∷ r.shape.swap_add
    ∷ r.shape.compare
    ∷ r.lkey
    ∷ r.local
    ∷ flag r.signaled
    ∷ flag r.fence
    ∷ []

-- a completion
abbrev pub numbers_of_completion : Completion → List ℕ
numbers_of_completion c = c.qp ∷ c.id ∷ wc_kind_code c.kind ∷ status_code c.status ∷ c.length ∷ has_number c.imm ∷ number_in c.imm ∷ []

-- a region, but for its names and its bytes
abbrev pub numbers_of_region : Region → List ℕ
numbers_of_region r = r.base ∷ r.length ∷ r.rights.0 ∷ r.keys.local ∷ r.keys.remote ∷ []

-- the terms of a connection
abbrev pub numbers_of_terms : Terms → List ℕ
numbers_of_terms t = t.mtu ∷ t.own_start ∷ t.peer_start ∷ t.retry ∷ t.rnr ∷ t.reads ∷ []

-- how far an end and its partner have moved
abbrev pub numbers_of_moving : Moving → List ℕ
numbers_of_moving m = phase_code m.phase ∷ m.own ∷ m.recorded ∷ m.partner.ip ∷ m.partner.port ∷ []

-- a requester, but for its requests
abbrev pub numbers_of_sender : Sender → List ℕ
numbers_of_sender s = s.first ∷ s.una ∷ s.next ∷ s.top ∷ s.spent ∷ s.waits ∷ flag s.rnr_wait ∷ []

-- a message in progress
abbrev pub numbers_of_progress : Progress → List ℕ
numbers_of_progress NoMessage = 0 ∷ 0 ∷ 0 ∷ 0 ∷ 0 ∷ 0 ∷ []
numbers_of_progress (InSend done receive) = 1 ∷ done ∷ receive.id ∷ receive.lkey ∷ receive.local ∷ receive.length ∷ []
numbers_of_progress (InWrite region off length done) = 2 ∷ region ∷ off ∷ length ∷ done ∷ 0 ∷ []

-- a responder, but for its message in progress and the kept replies
abbrev pub numbers_of_receiver : Receiver → List ℕ
numbers_of_receiver r = r.expected ∷ flag r.nak_sent ∷ r.msn ∷ []

-- a kept reply
abbrev pub numbers_of_reply : KeptReply → List ℕ
numbers_of_reply k = k.number ∷ k.old ∷ []

-- whether a connected end is in Error, and its partner
abbrev pub numbers_of_link : Link → List ℕ
numbers_of_link l = flag l.ended ∷ l.peer ∷ []

-- an entry of a husk
abbrev pub numbers_of_entry : HuskEntry → List ℕ
numbers_of_entry e = e.number ∷ e.peer ∷ e.moves ∷ []

-- a device, but for what its applications hold
abbrev pub numbers_of_device : Device → List ℕ
numbers_of_device d = d.id ∷ d.address.ip ∷ d.address.port ∷ d.qp_count ∷ d.key_count ∷ []
