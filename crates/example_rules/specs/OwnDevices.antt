-- Two applications with contexts and devices of their own, and a mover. `mail` on device 7 sends four bytes to `desk` on device 9,
-- whose receive was posted as the devices were prepared; both poll; the mover takes `desk` to device 8, where it loads what came.
-- The bytes of the two datagrams are worked out by hand from the headers' layout.
use Rattle.std.specs.Prelude.{ℕ, ◌+◌, List, [], ◌∷◌, ◌++◌, replicate, Some, None, codes, true, false}
use Rattle.rdma_types.specs.declared.answers.Answer.{Answer}
use Rattle.rdma_types.specs.declared.answers.Answer.TheVariants as answer
use Rattle.rdma_types.specs.declared.answers.ArrivalEffect.TheVariants as took
use Rattle.rdma_types.specs.declared.answers.Refusal.TheVariants as refusal
use Rattle.rdma_types.specs.declared.names.Name.{Name}
use Rattle.rdma_types.specs.declared.names.ObjName.{ObjName}
use Rattle.rdma_types.specs.declared.requests.Address.{Address}
use Rattle.rdma_types.specs.declared.requests.Kind.TheVariants as kind
use Rattle.rdma_types.specs.declared.requests.Receive.{Receive}
use Rattle.rdma_types.specs.declared.requests.Request.{Request}
use Rattle.rdma_types.specs.declared.requests.Terms.{Terms}
use Rattle.rdma_types.specs.declared.requests.WcKind.TheVariants as wc_kind
use Rattle.rdma_types.specs.declared.requests.WcStatus.TheVariants as status
use Rattle.rdma_types.specs.declared.verbs.Verb.{Verb}
use Rattle.rdma_types.specs.declared.verbs.Verb.TheVariants as verbs
use Rattle.protocol.specs.declared.events.Event.{Event}
use Rattle.protocol.specs.declared.events.Event.TheVariants as event
use Rattle.protocol.specs.declared.events.WorldEvent.{WorldEvent}
use Rattle.protocol.specs.declared.events.WorldEvent.TheVariants.{AddDevice, At, Connect, MakeContext}
use Rattle.protocol.specs.declared.images.ContextImage.{ContextImage}
use Rattle.protocol.specs.declared.images.Progress.TheVariants as progress
use Rattle.protocol.specs.Replay.{replay}
use Rattle.protocol.specs.State.{Context, Device, End, Link, fresh_link}
use Rattle.rdma_types.specs.declared.requests.Keys.{Keys}
use Rattle.rdma_types.specs.Objects.{Region}
use Rattle.order_rules.specs.Lines.{Line}
use Rattle.example_rules.specs.Alone.{gives, line}
use Rattle.example_rules.specs.Words.{region_keys, wc}

-- ---- what is prepared

-- 192.168.0.n at port 4791
abbrev pub address : ℕ → Address
address n = record { ip = 3232235520 + n; port = 4791 }

abbrev pub in_mail : Name → ObjName
in_mail n = record { context = codes "mail"; name = n }

abbrev pub in_desk : Name → ObjName
in_desk n = record { context = codes "desk"; name = n }

abbrev pub terms : Terms
terms = record { mtu = 256; own_start = 5; peer_start = 9; retry = 3; rnr = 3; reads = 1 }

-- a receive of 16 bytes
abbrev pub receive : Receive
receive = record { id = 21; lkey = 150994946; local = 8192; length = 16 }

-- an application's domain, region, completion queue and queue pair
abbrev pub makes_domain : ObjName → Event
makes_domain o = event.MakeDomain o

abbrev pub makes_region : ObjName → ℕ → Event
makes_region o base = event.MakeRegion o (Some (codes "d")) base 16 (record { 0 = 15 })

abbrev pub makes_queue : ObjName → Event
makes_queue o = event.MakeCq o 4

abbrev pub makes_end : ObjName → Event
makes_end o = event.MakeQp o (Some (codes "d")) (Some (codes "done")) (Some (codes "done")) 2 2

-- devices 7, 8 and 9; the context mail on 7, with "ping" in its memory, and desk on 9, with a receive
abbrev pub opening : List WorldEvent
opening =
    AddDevice 7 (address 7)
    ∷ AddDevice 8 (address 8)
    ∷ AddDevice 9 (address 9)
    ∷ MakeContext (codes "mail") 7
    ∷ MakeContext (codes "desk") 9
    ∷ At (makes_domain (in_mail (codes "d")))
    ∷ At (makes_domain (in_desk (codes "d")))
    ∷ At (makes_region (in_mail (codes "out")) 4096)
    ∷ At (makes_region (in_desk (codes "in")) 8192)
    ∷ At (makes_queue (in_mail (codes "done")))
    ∷ At (makes_queue (in_desk (codes "done")))
    ∷ At (makes_end (in_mail (codes "q")))
    ∷ At (makes_end (in_desk (codes "q")))
    ∷ Connect (in_mail (codes "q")) (in_desk (codes "q")) terms
    ∷ At (event.Store (in_mail (codes "out")) 4096 (codes "ping"))
    ∷ At (event.PostRecv (in_desk (codes "q")) receive)
    ∷ []

-- the same devices, each by steps of its own, as a program makes them
abbrev pub bare : ℕ → Device
bare id = record { id = id; address = address id; qp_count = 0; key_count = 0; contexts = []; husks = [] }

abbrev pub mail_steps : List Event
mail_steps =
    event.MakeContext (codes "mail")
    ∷ makes_domain (in_mail (codes "d"))
    ∷ makes_region (in_mail (codes "out")) 4096
    ∷ makes_queue (in_mail (codes "done"))
    ∷ makes_end (in_mail (codes "q"))
    ∷ event.Connect (in_mail (codes "q")) 589825 (address 9) terms
    ∷ event.Store (in_mail (codes "out")) 4096 (codes "ping")
    ∷ []

abbrev pub desk_steps : List Event
desk_steps =
    event.MakeContext (codes "desk")
    ∷ makes_domain (in_desk (codes "d"))
    ∷ makes_region (in_desk (codes "in")) 8192
    ∷ makes_queue (in_desk (codes "done"))
    ∷ makes_end (in_desk (codes "q"))
    ∷ event.Connect (in_desk (codes "q")) 458753 (address 7) (record { mtu = 256; own_start = 9; peer_start = 5; retry = 3; rnr = 3; reads = 1 })
    ∷ event.PostRecv (in_desk (codes "q")) receive
    ∷ []

abbrev pub one_by_one : List Device
one_by_one = replay (bare 7) mail_steps ∷ bare 8 ∷ replay (bare 9) desk_steps ∷ []

-- .. written out
abbrev pub region : Name → ℕ → Keys → List ℕ → Region
region name base keys bytes = record { name = name; domain = codes "d"; base = base; length = 16; rights = record { 0 = 15 }; keys = keys; bytes = bytes }

abbrev pub end : ℕ → List Receive → Link → End
end number unused link = record {
  name = codes "q";
  number = number;
  domain = codes "d";
  send_cq = codes "done";
  recv_cq = codes "done";
  send_depth = 2;
  recv_depth = 2;
  unused = unused;
  link = Some link;
}

abbrev pub context : Name → Region → End → Context
context name r e = record { name = name; domains = codes "d" ∷ []; regions = r ∷ []; queues = record { name = codes "done"; capacity = 4; entries = [] } ∷ []; ends = e ∷ [] }

abbrev pub mail : Context
mail =
    context (codes "mail") (region (codes "out") 4096 (record { local = 117440514; remote = 117440515 }) (codes "ping" ++ replicate 12 0))
    (end 458753 [] (fresh_link 589825 (address 9) terms))

abbrev pub desk : Context
desk =
    context (codes "desk") (region (codes "in") 8192 (record { local = 150994946; remote = 150994947 }) (replicate 16 0))
    (end 589825 (receive ∷ []) (fresh_link 458753 (address 7) (record { mtu = 256; own_start = 9; peer_start = 5; retry = 3; rnr = 3; reads = 1 })))

abbrev pub devices : List Device
devices =
    record { id = 7; address = address 7; qp_count = 1; key_count = 1; contexts = mail ∷ []; husks = [] }
    ∷ bare 8
    ∷ record { id = 9; address = address 9; qp_count = 1; key_count = 1; contexts = desk ∷ []; husks = [] }
    ∷ []

-- ---- the order

-- the four bytes are sent
abbrev pub request : Request
request = record {
  id = 11;
  shape = record { kind = kind.Send; length = 4; remote = 0; rkey = 0; imm = None; swap_add = 0; compare = 0 };
  lkey = 117440514;
  local = 4096;
  signaled = true;
  fence = false;
}

-- SEND ONLY to queue pair 0x090001, number 5, and its four bytes
abbrev pub sent_bytes : List ℕ
sent_bytes = (4 ∷ 0 ∷ 255 ∷ 255 ∷ 0 ∷ 9 ∷ 0 ∷ 1 ∷ 128 ∷ 0 ∷ 0 ∷ 5 ∷ 112 ∷ 105 ∷ 110 ∷ 103 ∷ 0 ∷ 0 ∷ 0 ∷ 0 ∷ [])

-- ACKNOWLEDGE to queue pair 0x070001, number 5, message 1
abbrev pub acknowledged : List ℕ
acknowledged = (17 ∷ 0 ∷ 255 ∷ 255 ∷ 0 ∷ 7 ∷ 0 ∷ 1 ∷ 0 ∷ 0 ∷ 0 ∷ 5 ∷ 31 ∷ 0 ∷ 0 ∷ 1 ∷ 0 ∷ 0 ∷ 0 ∷ 0 ∷ [])

-- desk as it is stopped: the message landed, and nothing is posted
abbrev pub image : ContextImage
image = record {
  name = codes "desk";
  domains = codes "d" ∷ [];
  regions = record {
    name = codes "in";
    domain = 0;
    base = 8192;
    length = 16;
    rights = record { 0 = 15 };
    keys = record { local = 150994946; remote = 150994947 };
    bytes = codes "ping" ++ replicate 12 0;
  } ∷ [];
  queues = record { name = codes "done"; capacity = 4; entries = [] } ∷ [];
  ends = record {
    name = codes "q";
    number = 589825;
    domain = 0;
    send_cq = 0;
    recv_cq = 0;
    send_depth = 2;
    recv_depth = 2;
    linked = Some (record {
      ended = false;
      peer = 458753;
      partner = address 7;
      moves = 0;
      partner_moves = 0;
      resuming = false;
      terms = record { mtu = 256; own_start = 9; peer_start = 5; retry = 3; rnr = 3; reads = 1 };
      first = 0;
      una = 0;
      next = 0;
      top = 0;
      spent = 0;
      waits = 0;
      rnr_wait = false;
      expected = 1;
      nak_sent = false;
      msn = 1;
      progress = progress.Idle;
      kept = [];
    });
    untold = [];
    unused = [];
  } ∷ [];
}

-- the completions that each application polls
abbrev pub done_at_mail : Answer
done_at_mail = answer.Polled (wc 458753 11 wc_kind.Send status.Success 4 None ∷ [])

abbrev pub done_at_desk : Answer
done_at_desk = answer.Polled (wc 589825 21 wc_kind.Recv status.Success 4 None ∷ [])

-- what desk loads
abbrev pub loads : Event
loads = event.Load (in_desk (codes "in")) 8192 4

-- application 1 works on mail, application 2 on desk, and number 0 moves desk; application 2 asks once where desk left a husk
abbrev pub lines : List Line
lines =
    line 1 7 0 (event.PostSend (in_mail (codes "q")) request) (gives answer.Done []) 1 0
    ∷ line 1 7 1 (event.Transmit (in_mail (codes "q"))) (gives (answer.Sent 0) (record { to = address 9; number = Some 0; bytes = sent_bytes } ∷ [])) 1 1
    ∷ line 1 9 0 (event.Arrive (address 7) sent_bytes) (gives (answer.Took took.Ack 0 1) (record { to = address 7; number = Some 0; bytes = acknowledged } ∷ [])) 2 1
    ∷ line 1 7 2 (event.Arrive (address 9) acknowledged) (gives (answer.Took took.Acked 0 0) []) 3 0
    ∷ line 1 7 3 (event.Poll (in_mail (codes "done")) 4) (gives done_at_mail []) 3 0
    ∷ line 2 9 1 (event.Poll (in_desk (codes "done")) 4) (gives done_at_desk []) 3 0
    ∷ line 0 9 2 (event.Stop (codes "desk") false) (record { answer = answer.Stopped; sent = []; image = Some image }) 3 0
    ∷ line 2 9 3 loads (gives (answer.Refused refusal.Stopped) []) 3 0
    ∷ line 0 8 0 (event.Restore image) (gives answer.Done []) 3 0
    ∷ line 2 8 1 loads (gives (answer.Bytes (codes "ping")) []) 3 0
    ∷ []

-- ---- what applications make and hear

-- while the devices are prepared
abbrev pub prepared : List (Verb × Answer)
prepared =
    (verbs.Context (codes "mail") true, answer.Done)
    ∷ (verbs.Context (codes "desk") true, answer.Done)
    ∷ (verbs.MakeDomain (in_mail (codes "d")), answer.Done)
    ∷ (verbs.MakeDomain (in_desk (codes "d")), answer.Done)
    ∷ (verbs.MakeRegion (in_mail (codes "out")) (Some (codes "d")) 4096 16 (record { 0 = 15 }), region_keys 117440514 117440515)
    ∷ (verbs.MakeRegion (in_desk (codes "in")) (Some (codes "d")) 8192 16 (record { 0 = 15 }), region_keys 150994946 150994947)
    ∷ (verbs.MakeCq (in_mail (codes "done")) 4, answer.Done)
    ∷ (verbs.MakeCq (in_desk (codes "done")) 4, answer.Done)
    ∷ (verbs.MakeQp (in_mail (codes "q")) (Some (codes "d")) (Some (codes "done")) (Some (codes "done")) 2 2, answer.Qp 458753)
    ∷ (verbs.MakeQp (in_desk (codes "q")) (Some (codes "d")) (Some (codes "done")) (Some (codes "done")) 2 2, answer.Qp 589825)
    ∷ (verbs.Connect (in_mail (codes "q")) (in_desk (codes "q")) terms, answer.Done)
    ∷ (verbs.Store (in_mail (codes "out")) 4096 (codes "ping"), answer.Done)
    ∷ (verbs.PostRecv (in_desk (codes "q")) receive, answer.Done)
    ∷ []

-- in the order; the refused load is none
abbrev pub heard_then : List (Verb × Answer)
heard_then =
    (verbs.PostSend (in_mail (codes "q")) request, answer.Done)
    ∷ (verbs.Poll (in_mail (codes "done")) 4, done_at_mail)
    ∷ (verbs.Poll (in_desk (codes "done")) 4, done_at_desk)
    ∷ (verbs.Load (in_desk (codes "in")) 8192 4, answer.Bytes (codes "ping"))
    ∷ []
