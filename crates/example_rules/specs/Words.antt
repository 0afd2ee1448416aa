-- Short words for scripts and answers.
use Rattle.std.specs.Prelude.{ℕ, List, Option, None, true, false, Bool}
use Rattle.rdma_types.specs.declared.answers.Answer.{Answer}
use Rattle.rdma_types.specs.declared.answers.Answer.TheVariants as answer
use Rattle.rdma_types.specs.declared.answers.ArrivalEffect.{ArrivalEffect}
use Rattle.rdma_types.specs.declared.answers.DropReason.{DropReason}
use Rattle.rdma_types.specs.declared.answers.ArrivalEffect.TheVariants as took_word
use Rattle.rdma_types.specs.declared.names.ObjName.{ObjName}
use Rattle.rdma_types.specs.declared.requests.Completion.{Completion}
use Rattle.rdma_types.specs.declared.requests.Kind.{Kind}
use Rattle.rdma_types.specs.declared.requests.Kind.TheVariants as kind
use Rattle.rdma_types.specs.declared.requests.WcKind.{WcKind}
use Rattle.rdma_types.specs.declared.requests.WcStatus.{WcStatus}
use Rattle.rdma_types.specs.declared.names.Name.{Name}
use Rattle.protocol.specs.declared.events.Event.TheVariants as event
use Rattle.protocol.specs.declared.events.WorldEvent.{WorldEvent}
use Rattle.protocol.specs.declared.events.WorldEvent.TheVariants.{AddDevice, MakeContext, At, Connect}

-- an object of a context
abbrev pub obj : Name → Name → ObjName
obj c n = record { context = c; name = n }

-- a line `device` at port 4791
abbrev pub device : ℕ → ℕ → WorldEvent
device id ip = AddDevice id (record { ip = ip; port = 4791 })

-- a line `device` with its port
abbrev pub device_at : ℕ → ℕ → ℕ → WorldEvent
device_at id ip port = AddDevice id (record { ip = ip; port = port })

-- a line `context`
abbrev pub context : Name → ℕ → WorldEvent
context n id = MakeContext n id

-- a line `domain`
abbrev pub domain : ObjName → WorldEvent
domain o = At (event.MakeDomain o)

-- a line `region`; its rights as bits
abbrev pub region : ObjName → Option Name → ℕ → ℕ → ℕ → WorldEvent
region o d base length rights = At (event.MakeRegion o d base length (record { 0 = rights }))

-- a line `cq`
abbrev pub cq : ObjName → ℕ → WorldEvent
cq o n = At (event.MakeCq o n)

-- a line `qp`
abbrev pub qp : ObjName → Option Name → Option Name → Option Name → ℕ → ℕ → WorldEvent
qp o d s r sd rd = At (event.MakeQp o d s r sd rd)

-- a line `connect`
abbrev pub connect : ObjName → ObjName → ℕ → ℕ → ℕ → ℕ → ℕ → ℕ → WorldEvent
connect one two mtu x y retry rnr reads = Connect one two (record { mtu = mtu; own_start = x; peer_start = y; retry = retry; rnr = rnr; reads = reads })

-- a line `drop`
abbrev pub drop : ObjName → WorldEvent
drop o = At (event.DropRegion o)

-- a line `store`
abbrev pub store : ObjName → ℕ → List ℕ → WorldEvent
store o at bytes = At (event.Store o at bytes)

-- a line `load`
abbrev pub load : ObjName → ℕ → ℕ → WorldEvent
load o at n = At (event.Load o at n)

-- a request: end, id, kind, local key, local address, length, remote address, remote key
abbrev pub posting : ObjName → ℕ → Kind → ℕ → ℕ → ℕ → ℕ → ℕ → Option ℕ → ℕ → ℕ → Bool → Bool → WorldEvent
posting o id k lkey at n raddr rkey imm compare swap fence signaled = At (event.PostSend o (record {
  id = id;
  shape = record { kind = k; length = n; remote = raddr; rkey = rkey; imm = imm; swap_add = swap; compare = compare };
  lkey = lkey;
  local = at;
  signaled = signaled;
  fence = fence;
}))

-- a line `write`
abbrev pub write : ObjName → ℕ → ℕ → ℕ → ℕ → ℕ → ℕ → WorldEvent
write o id lkey at n raddr rkey = posting o id kind.Write lkey at n raddr rkey None 0 0 false true

-- a line `recv`
abbrev pub recv : ObjName → ℕ → ℕ → ℕ → ℕ → WorldEvent
recv o id lkey at n = At (event.PostRecv o (record { id = id; lkey = lkey; local = at; length = n }))

-- a line `poll`
abbrev pub poll : ObjName → ℕ → WorldEvent
poll o n = At (event.Poll o n)

-- a line `go`
abbrev pub go : ObjName → WorldEvent
go o = At (event.Transmit o)

-- a line `expire`
abbrev pub expire : ObjName → WorldEvent
expire o = At (event.Expire o)

-- a line `rnr`
abbrev pub rnr : ObjName → WorldEvent
rnr o = At (event.RnrOver o)

-- ---- answers

-- the keys of a region
abbrev pub region_keys : ℕ → ℕ → Answer
region_keys l r = answer.Region (record { local = l; remote = r })

-- an answer `sent`
abbrev pub sent : ℕ → Answer
sent k = answer.Sent k

-- what a datagram did, the first datagram sent for it and how many
abbrev pub took : ArrivalEffect → ℕ → ℕ → Answer
took t first count = answer.Took t first count

-- an answer `took silent`
abbrev pub silent : DropReason → Answer
silent w = answer.Took (took_word.Silent w) 0 0

-- a completion: queue pair, id, kind, status, length, immediate
abbrev pub wc : ℕ → ℕ → WcKind → WcStatus → ℕ → Option ℕ → Completion
wc qp id k s n imm = record { qp = qp; id = id; kind = k; status = s; length = n; imm = imm }
