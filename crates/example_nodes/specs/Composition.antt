-- A live move among three nodes: a partner with context a, a source from which context b moves, and a target to which it moves. Scripts
-- drive the first two, and lines the target. At the end the partner makes context c.
use Rattle.std.specs.Prelude.{ℕ, true, false, List, [], ◌∷◌, ◌++◌, codes, Option, Some, None}
use Rattle.host_ports.specs.Links.{Addressed}
use Rattle.rdma_types.specs.declared.answers.Answer.{Answer}
use Rattle.rdma_types.specs.declared.answers.Answer.TheVariants as answer
use Rattle.rdma_types.specs.declared.names.Name.{Name}
use Rattle.rdma_types.specs.declared.names.ObjName.{ObjName}
use Rattle.rdma_types.specs.declared.requests.Address.{Address}
use Rattle.rdma_types.specs.declared.requests.Kind.TheVariants as kind
use Rattle.rdma_types.specs.declared.requests.Request.{Request}
use Rattle.rdma_types.specs.declared.requests.Terms.{Terms}
use Rattle.rdma_types.specs.declared.requests.WcKind.TheVariants as wc_kind
use Rattle.rdma_types.specs.declared.requests.WcStatus.TheVariants as status
use Rattle.rdma_types.specs.declared.verbs.Verb.{Verb}
use Rattle.rdma_types.specs.declared.verbs.Verb.TheVariants as verbs
use Rattle.protocol.specs.declared.events.Event.{Event}
use Rattle.protocol.specs.declared.events.Event.TheVariants as event
use Rattle.protocol.specs.declared.events.WorldEvent.{WorldEvent}
use Rattle.protocol.specs.declared.events.WorldEvent.TheVariants as world_event
use Rattle.protocol.specs.declared.images.ContextImage.{ContextImage}
use Rattle.protocol.specs.declared.images.Progress.TheVariants as progress
use Rattle.protocol.specs.Dumps.{dump_bytes}
use Rattle.protocol.specs.WorldStep.{exchanged}
use Rattle.node_rules.specs.Lines.{counting, version}
use Rattle.node_rules.specs.Plan.{Asked, Asks, Call, Looked, Looks, Plan, Put, Puts, Removed, Removes, Sends, Sent, Started, Starts, Takes, Took, Writes, Wrote}
use Rattle.node_rules.specs.Script.{node_plan}
use Rattle.law_nodes.specs.Acts as act
use Rattle.law_nodes.specs.Acts.{Act}
use Rattle.law_nodes.specs.Composed.{Deed, Lines, NodeRun, Script}
use Rattle.law_nodes.specs.Served.{Done, Line, Restore}
use Rattle.serve_rules.specs.declared.replies.Reply.{Reply}
use Rattle.serve_rules.specs.declared.replies.Reply.TheVariants as reply
use Rattle.serve_rules.specs.Lines.{line_stepped}
use Rattle.serve_rules.specs.Moving.{with_context}
use Rattle.serve_rules.specs.Server.{Server, new_server, outcome_of}
use Rattle.example_nodes.specs.Things.{one, two}
use Rattle.example_nodes.specs.Evaluate.{spelled}

-- ---- the calls of a plan, where the outside answers so

-- an answer of the outside
pub data Heard : Type 0 where
  Gives : (got : Option Addressed) → Heard  -- the link gives a datagram, or nothing
  Ticks : (moment : ℕ) → Heard  -- the clock
  Holds : (found : Option (List ℕ)) → Heard  -- the depot

-- the calls that are made, up to one for which there is no answer
unfoldable pub calls_with : Plan → List Heard → List Call
calls_with (Starts own more) rs = Started own ∷ calls_with more rs
calls_with (Sends datagram more) rs = Sent datagram ∷ calls_with more rs
calls_with (Puts name bytes more) rs = Put name bytes ∷ calls_with more rs
calls_with (Writes text more) rs = Wrote text ∷ calls_with more rs
calls_with (Takes more) (Gives got ∷ rs) = Took got ∷ calls_with (more got) rs
calls_with (Asks more) (Ticks moment ∷ rs) = Asked moment ∷ calls_with (more moment) rs
calls_with (Looks name more) (Holds found ∷ rs) = Looked name found ∷ calls_with (more found) rs
calls_with (Removes name more) (Holds found ∷ rs) = Removed name found ∷ calls_with (more found) rs
calls_with plan rs = []

-- what is left of the plan then
unfoldable pub left_with : Plan → List Heard → Plan
left_with (Starts own more) rs = left_with more rs
left_with (Sends datagram more) rs = left_with more rs
left_with (Puts name bytes more) rs = left_with more rs
left_with (Writes text more) rs = left_with more rs
left_with (Takes more) (Gives got ∷ rs) = left_with (more got) rs
left_with (Asks more) (Ticks moment ∷ rs) = left_with (more moment) rs
left_with (Looks name more) (Holds found ∷ rs) = left_with (more found) rs
left_with (Removes name more) (Holds found ∷ rs) = left_with (more found) rs
left_with plan rs = plan

-- ---- names

-- 10.0.0.3 with the port of RoCEv2
abbrev pub three : Address
three = record { ip = 167772163; port = 4791 }

-- an object of context a, and of context b
abbrev pub of_a : Name → ObjName
of_a name = record { context = codes "a"; name = name }

abbrev pub of_b : Name → ObjName
of_b name = record { context = codes "b"; name = name }

-- the terms of the connection, as a has them
abbrev pub terms : Terms
terms = record { mtu = 256; own_start = 100; peer_start = 200; retry = 7; rnr = 7; reads = 4 }

-- a write of four bytes into b's region
abbrev pub request : Request
request = record {
  id = 1;
  shape = record { kind = kind.Write; length = 4; remote = 8192; rkey = 33554435; imm = None; swap_add = 0; compare = 0 };
  lkey = 16777218;
  local = 4096;
  signaled = true;
  fence = false;
}

-- ---- datagrams

-- the write, its acknowledgement, and the RESUME of the target
abbrev pub write : List ℕ
write = spelled (codes "0a00ffff000200018000006400000000000020000200000300000004deadbeef00000000")

abbrev pub acknowledgement : List ℕ
acknowledgement = spelled (codes "1100ffff00010001000000641f00000100000000")

abbrev pub resume : List ℕ
resume = spelled (codes "1e00ffff0001000100000000000000010a00000312b7000000000000")

-- ---- scripts

-- the partner writes to b, serves while b moves, and makes a context then
abbrev pub partner_script : List ℕ
partner_script =
    codes "context a\n"
    ++ codes "domain a.p\n"
    ++ codes "region a.m a.p 4096 64 lwra\n"
    ++ codes "cq a.c 16\n"
    ++ codes "qp a.q a.p a.c a.c 8 8\n"
    ++ codes "link a.q 020001 10.0.0.2 mtu 256 psn 100 200 retry 7 rnr 7 reads 4\n"
    ++ codes "store a.m 4096 deadbeef\n"
    ++ codes "write a.q 1 01000002 4096 4 8192 02000003\n"
    ++ codes "go a.q\n"
    ++ codes "serve 2\n"
    ++ codes "poll a.c 4\n"
    ++ codes "context c\n"

-- b takes the write on the source, and is stopped
abbrev pub source_script : List ℕ
source_script =
    codes "context b\n"
    ++ codes "domain b.p\n"
    ++ codes "region b.n b.p 8192 4 lwra\n"
    ++ codes "cq b.c 16\n"
    ++ codes "qp b.q b.p b.c b.c 8 8\n"
    ++ codes "link b.q 010001 10.0.0.1 mtu 256 psn 200 100 retry 7 rnr 7 reads 4\n"
    ++ codes "serve 1\n"
    ++ codes "stop b f\n"

-- ---- what each node does

abbrev pub partner_prepares : List Act
partner_prepares =
    act.Starts one
    ∷ act.Does (event.MakeContext (codes "a"))
    ∷ act.Does (event.MakeDomain (of_a (codes "p")))
    ∷ act.Does (event.MakeRegion (of_a (codes "m")) (Some (codes "p")) 4096 64 (record { 0 = 15 }))
    ∷ act.Does (event.MakeCq (of_a (codes "c")) 16)
    ∷ act.Does (event.MakeQp (of_a (codes "q")) (Some (codes "p")) (Some (codes "c")) (Some (codes "c")) 8 8)
    ∷ act.Does (event.Connect (of_a (codes "q")) 131073 two terms)
    ∷ []

abbrev pub source_prepares : List Act
source_prepares =
    act.Starts two
    ∷ act.Does (event.MakeContext (codes "b"))
    ∷ act.Does (event.MakeDomain (of_b (codes "p")))
    ∷ act.Does (event.MakeRegion (of_b (codes "n")) (Some (codes "p")) 8192 4 (record { 0 = 15 }))
    ∷ act.Does (event.MakeCq (of_b (codes "c")) 16)
    ∷ act.Does (event.MakeQp (of_b (codes "q")) (Some (codes "p")) (Some (codes "c")) (Some (codes "c")) 8 8)
    ∷ act.Does (event.Connect (of_b (codes "q")) 65537 one (exchanged terms))
    ∷ []

-- the source takes the write in its one turn
abbrev pub source_serves : List Act
source_serves = act.Takes (one, write) ∷ act.Turns (event.Transmit (of_b (codes "q"))) ∷ act.Asks 0 ∷ act.Counts 1 ∷ []

-- the image of b as it is stopped, and its dump
abbrev pub moving : ContextImage
moving = record {
  name = codes "b";
  domains = codes "p" ∷ [];
  regions = record { name = codes "n"; domain = 0; base = 8192; length = 4; rights = record { 0 = 15 }; keys = record { local = 33554434; remote = 33554435 }; bytes = 222 ∷ 173 ∷ 190 ∷ 239 ∷ [] } ∷ [];
  queues = record { name = codes "c"; capacity = 16; entries = [] } ∷ [];
  ends = record {
    name = codes "q";
    number = 131073;
    domain = 0;
    send_cq = 0;
    recv_cq = 0;
    send_depth = 8;
    recv_depth = 8;
    linked = Some (record {
      ended = false;
      peer = 65537;
      partner = one;
      expected = 1;
      nak_sent = false;
      msn = 1;
      progress = progress.Idle;
      kept = [];
      moves = 0;
      partner_moves = 0;
      resuming = false;
      terms = exchanged terms;
      first = 0;
      una = 0;
      next = 0;
      top = 0;
      spent = 0;
      waits = 0;
      rnr_wait = false;
    });
    untold = [];
    unused = [];
  } ∷ [];
}

abbrev pub dump : List ℕ
dump = dump_bytes version moving

abbrev pub stops_b : Act
stops_b = act.Stops (codes "b") (codes "f")

abbrev pub partner_posts : List Act
partner_posts =
    act.Does (event.Store (of_a (codes "m")) 4096 (222 ∷ 173 ∷ 190 ∷ 239 ∷ []))
    ∷ act.Does (event.PostSend (of_a (codes "q")) request)
    ∷ act.Does (event.Transmit (of_a (codes "q")))
    ∷ []

abbrev pub partner_serves : List Act
partner_serves =
    act.Takes (two, acknowledgement)
    ∷ act.Turns (event.Transmit (of_a (codes "q")))
    ∷ act.Asks 0
    ∷ act.Takes (three, resume)
    ∷ act.Turns (event.Transmit (of_a (codes "q")))
    ∷ act.Asks 0
    ∷ act.Counts 2
    ∷ []

abbrev pub partner_ends : List Act
partner_ends = act.Does (event.Poll (of_a (codes "c")) 4) ∷ act.Does (event.MakeContext (codes "c")) ∷ []

abbrev pub target_restores : List Act
target_restores =
    act.Looks (codes "f") (Some dump)
    ∷ act.Restores (codes "f") dump moving dump
    ∷ act.Does (event.Transmit (of_b (codes "q")))
    ∷ []

abbrev pub target_loads : Act
target_loads = act.Does (event.Load (of_b (codes "n")) 8192 4)

-- ---- the nodes

abbrev pub partner_hears : List Heard
partner_hears = Gives (Some (two, acknowledgement)) ∷ Ticks 0 ∷ Gives (Some (three, resume)) ∷ Ticks 0 ∷ []

abbrev pub source_hears : List Heard
source_hears = Gives (Some (one, write)) ∷ Ticks 0 ∷ []

-- what the target did: b is restored there, says where it is, and what was written is read
abbrev pub before_it : Server
before_it = new_server 3 three 100

abbrev pub restored : Server
restored = with_context before_it moving

abbrev pub went : Server
went = line_stepped restored (event.Transmit (of_b (codes "q")))

abbrev pub read : Server
read = line_stepped went (event.Load (of_b (codes "n")) 8192 4)

-- what is answered to the line of an event
abbrev pub told : Server → Event → Reply
told s e = reply.Device (counting (line_stepped s e).tallies.made (outcome_of s e).answer)

abbrev pub target_does : List Done
target_does =
    record { doing = Restore (codes "f") reply.Restored; next = restored }
    ∷ record { doing = Line (codes "go b.q") (event.Transmit (of_b (codes "q"))) (told restored (event.Transmit (of_b (codes "q")))); next = went }
    ∷ record { doing = Line (codes "load b.n 8192 4") (event.Load (of_b (codes "n")) 8192 4) (told went (event.Load (of_b (codes "n")) 8192 4)); next = read }
    ∷ []

abbrev pub partner : NodeRun
partner = record { id = 1; own = one; source = Script partner_script (calls_with (node_plan 1 one partner_script) partner_hears); prepared = partner_prepares; served = partner_posts ++ (partner_serves ++ partner_ends) }

abbrev pub source : NodeRun
source = record { id = 2; own = two; source = Script source_script (calls_with (node_plan 2 two source_script) source_hears); prepared = source_prepares; served = source_serves ++ stops_b ∷ [] }

abbrev pub target : NodeRun
target = record { id = 3; own = three; source = Lines 100 target_does; prepared = []; served = target_restores ++ target_loads ∷ [] }

abbrev pub nodes : List NodeRun
nodes = partner ∷ source ∷ target ∷ []

-- what a world does for the same devices
abbrev pub events : List WorldEvent
events =
    world_event.AddDevice 1 one
    ∷ world_event.AddDevice 2 two
    ∷ world_event.AddDevice 3 three
    ∷ world_event.MakeContext (codes "a") 1
    ∷ world_event.MakeContext (codes "b") 2
    ∷ world_event.At (event.MakeDomain (of_a (codes "p")))
    ∷ world_event.At (event.MakeDomain (of_b (codes "p")))
    ∷ world_event.At (event.MakeRegion (of_a (codes "m")) (Some (codes "p")) 4096 64 (record { 0 = 15 }))
    ∷ world_event.At (event.MakeRegion (of_b (codes "n")) (Some (codes "p")) 8192 4 (record { 0 = 15 }))
    ∷ world_event.At (event.MakeCq (of_a (codes "c")) 16)
    ∷ world_event.At (event.MakeCq (of_b (codes "c")) 16)
    ∷ world_event.At (event.MakeQp (of_a (codes "q")) (Some (codes "p")) (Some (codes "c")) (Some (codes "c")) 8 8)
    ∷ world_event.At (event.MakeQp (of_b (codes "q")) (Some (codes "p")) (Some (codes "c")) (Some (codes "c")) 8 8)
    ∷ world_event.Connect (of_a (codes "q")) (of_b (codes "q")) terms
    ∷ []

-- ---- the order

-- deeds of a node, before others
abbrev pub does : ℕ → List Act → List Deed → List Deed
does id [] more = more
does id (a ∷ as') more = record { node = id; act = a } ∷ does id as' more

-- what is done before b stops, and after that
abbrev pub before_the_stop : List Deed
before_the_stop = does 1 partner_posts (does 2 source_serves [])

-- the RESUME reaches the partner, whose answer to it is lost
abbrev pub after_the_stop : List Deed
after_the_stop = does 3 target_restores (does 1 partner_serves (does 3 (target_loads ∷ []) (does 1 partner_ends [])))

abbrev pub order : List Deed
order = before_the_stop ++ (record { node = 2; act = stops_b } ∷ after_the_stop)

-- ---- what is heard in it

-- the write completes at a, and b has its bytes where it lives then
abbrev pub heard_then : List (Verb × Answer)
heard_then =
    (verbs.Store (of_a (codes "m")) 4096 (222 ∷ 173 ∷ 190 ∷ 239 ∷ []), answer.Done)
    ∷ (verbs.PostSend (of_a (codes "q")) request, answer.Done)
    ∷ (verbs.Load (of_b (codes "n")) 8192 4, answer.Bytes (222 ∷ 173 ∷ 190 ∷ 239 ∷ []))
    ∷ (verbs.Poll (of_a (codes "c")) 4, answer.Polled (record { qp = 65537; id = 1; kind = wc_kind.Write; status = status.Success; length = 4; imm = None } ∷ []))
    ∷ (verbs.Context (codes "c") true, answer.Done)
    ∷ []
