-- Two workers add once each, and then b moves once: the lines of the caller's own run, written out from its description.
-- The bytes of the four datagrams are those of a program made by other people from the same description.
use Rattle.std.specs.Prelude.{ℕ, ◌+◌, List, [], ◌∷◌, ◌++◌, replicate, Some, None, codes, true, false}
use Rattle.rdma_types.specs.declared.answers.Answer.{Answer}
use Rattle.rdma_types.specs.declared.answers.Answer.TheVariants as answer
use Rattle.rdma_types.specs.declared.answers.Sent.{Sent}
use Rattle.rdma_types.specs.declared.answers.ArrivalEffect.TheVariants as took
use Rattle.rdma_types.specs.declared.names.Name.{Name}
use Rattle.rdma_types.specs.declared.names.ObjName.{ObjName}
use Rattle.rdma_types.specs.declared.requests.Address.{Address}
use Rattle.rdma_types.specs.declared.requests.Completion.{Completion}
use Rattle.rdma_types.specs.declared.requests.Kind.TheVariants as kind
use Rattle.rdma_types.specs.declared.requests.Request.{Request}
use Rattle.rdma_types.specs.declared.requests.WcKind.TheVariants as wc_kind
use Rattle.rdma_types.specs.declared.requests.WcStatus.TheVariants as status
use Rattle.protocol.specs.declared.events.Event.{Event}
use Rattle.protocol.specs.declared.events.Event.TheVariants as event
use Rattle.protocol.specs.declared.images.ContextImage.{ContextImage}
use Rattle.protocol.specs.declared.images.EndImage.{EndImage}
use Rattle.protocol.specs.declared.images.Outcome.{Outcome}
use Rattle.protocol.specs.declared.images.Progress.TheVariants as progress
use Rattle.order_rules.specs.declared.OrderEntry.{OrderEntry}
use Rattle.order_rules.specs.Lines.{Line}

-- ---- words

-- 10.0.0.n at port 4791
abbrev pub address : ℕ → Address
address n = record { ip = 167772160 + n; port = 4791 }

-- an object
abbrev pub obj : Name → Name → ObjName
obj c n = record { context = c; name = n }

-- an outcome without an image
abbrev pub gives : Answer → List Sent → Outcome
gives a sent = record { answer = a; sent = sent; image = None }

-- a line: worker, device, place, first datagram, how many
abbrev pub line : ℕ → ℕ → ℕ → Event → Outcome → ℕ → ℕ → Line
line worker device place e o first count = record { receipt = record { worker = worker; device = device; place = place; event = e; outcome = o }; first = first; count = count }

-- addition 1 of a worker, whose local place is at that address
abbrev pub request : ℕ → Request
request place = record {
  id = 1;
  shape = record { kind = kind.FetchAdd; length = 8; remote = 8192; rkey = 33554435; imm = None; swap_add = 1; compare = 0 };
  lkey = 16777218;
  local = place;
  signaled = true;
  fence = false;
}

-- the completion of addition 1 at the end with that number
abbrev pub completion : ℕ → Completion
completion qp = record { qp = qp; id = 1; kind = wc_kind.FetchAdd; status = status.Success; length = 8; imm = None }

-- ---- datagrams

-- the addition of worker 1, sent to b
abbrev pub addition_1 : List ℕ
addition_1 = (20 ∷ 0 ∷ 255 ∷ 255 ∷ 0 ∷ 2 ∷ 0 ∷ 1 ∷ 128 ∷ 0 ∷ 0 ∷ 100 ∷ 0 ∷ 0 ∷ 0 ∷ 0 ∷ 0 ∷ 0 ∷ 32 ∷ 0 ∷ 2 ∷ 0 ∷ 0 ∷ 3 ∷ 0 ∷ 0 ∷ 0 ∷ 0 ∷ 0 ∷ 0 ∷ 0 ∷ 1 ∷ 0 ∷ 0 ∷ 0 ∷ 0 ∷ 0 ∷ 0 ∷ 0 ∷ 0 ∷ 0 ∷ 0 ∷ 0 ∷ 0 ∷ [])

-- the old value, sent back to worker 1
abbrev pub old_1 : List ℕ
old_1 = (18 ∷ 0 ∷ 255 ∷ 255 ∷ 0 ∷ 1 ∷ 0 ∷ 1 ∷ 0 ∷ 0 ∷ 0 ∷ 100 ∷ 31 ∷ 0 ∷ 0 ∷ 1 ∷ 0 ∷ 0 ∷ 0 ∷ 0 ∷ 0 ∷ 0 ∷ 0 ∷ 0 ∷ 0 ∷ 0 ∷ 0 ∷ 0 ∷ [])

-- the addition of worker 2, sent to b
abbrev pub addition_2 : List ℕ
addition_2 = (20 ∷ 0 ∷ 255 ∷ 255 ∷ 0 ∷ 2 ∷ 0 ∷ 2 ∷ 128 ∷ 0 ∷ 0 ∷ 100 ∷ 0 ∷ 0 ∷ 0 ∷ 0 ∷ 0 ∷ 0 ∷ 32 ∷ 0 ∷ 2 ∷ 0 ∷ 0 ∷ 3 ∷ 0 ∷ 0 ∷ 0 ∷ 0 ∷ 0 ∷ 0 ∷ 0 ∷ 1 ∷ 0 ∷ 0 ∷ 0 ∷ 0 ∷ 0 ∷ 0 ∷ 0 ∷ 0 ∷ 0 ∷ 0 ∷ 0 ∷ 0 ∷ [])

-- the old value, sent back to worker 2
abbrev pub old_2 : List ℕ
old_2 = (18 ∷ 0 ∷ 255 ∷ 255 ∷ 0 ∷ 1 ∷ 0 ∷ 2 ∷ 0 ∷ 0 ∷ 0 ∷ 100 ∷ 31 ∷ 0 ∷ 0 ∷ 1 ∷ 0 ∷ 0 ∷ 0 ∷ 0 ∷ 0 ∷ 0 ∷ 0 ∷ 1 ∷ 0 ∷ 0 ∷ 0 ∷ 0 ∷ [])

-- ---- the image of b

-- an end of b: its name, its number, its partner's number, and the old value that it answered
abbrev pub end_of_b : Name → ℕ → ℕ → ℕ → EndImage
end_of_b name number peer old = record {
  name = name;
  number = number;
  domain = 0;
  send_cq = 0;
  recv_cq = 0;
  send_depth = 8;
  recv_depth = 1;
  linked = Some (record {
    ended = false;
    peer = peer;
    partner = address 1;
    moves = 0;
    partner_moves = 0;
    resuming = false;
    terms = record { mtu = 256; own_start = 200; peer_start = 100; retry = 7; rnr = 7; reads = 4 };
    first = 0;
    una = 0;
    next = 0;
    top = 0;
    spent = 0;
    waits = 0;
    rnr_wait = false;
    expected = 1;
    nak_sent = false;
    msn = 1;
    progress = progress.Idle;
    kept = record { number = 0; old = old } ∷ [];
  });
  untold = [];
  unused = [];
}

-- b as it is stopped: its word is 2
abbrev pub image : ContextImage
image = record {
  name = codes "b";
  domains = codes "p" ∷ [];
  regions = record {
    name = codes "n";
    domain = 0;
    base = 8192;
    length = 64;
    rights = record { 0 = 15 };
    keys = record { local = 33554434; remote = 33554435 };
    bytes = 0 ∷ 0 ∷ 0 ∷ 0 ∷ 0 ∷ 0 ∷ 0 ∷ 2 ∷ replicate 56 0;
  } ∷ [];
  queues = record { name = codes "c"; capacity = 256; entries = [] } ∷ [];
  ends = end_of_b (codes "q1") 131073 65537 0 ∷ end_of_b (codes "q2") 131074 65538 1 ∷ [];
}

-- ---- the lines

-- worker 1 posts, sends, and delivers both datagrams
abbrev pub first_worker : List Line
first_worker =
    line 1 1 0 (event.PostSend (obj (codes "a") (codes "q1")) (request 4096)) (gives answer.Done []) 1 0
    ∷ line 1 1 1 (event.Transmit (obj (codes "a") (codes "q1"))) (gives (answer.Sent 0) (record { to = address 2; number = Some 0; bytes = addition_1 } ∷ [])) 1 1
    ∷ line 1 2 0 (event.Arrive (address 1) addition_1) (gives (answer.Took took.Old 0 1) (record { to = address 1; number = Some 0; bytes = old_1 } ∷ [])) 2 1
    ∷ line 1 1 2 (event.Arrive (address 2) old_1) (gives (answer.Took took.Landed 0 0) []) 3 0
    ∷ []

-- number 0 polls
abbrev pub first_poll : List Line
first_poll = line 0 1 3 (event.Poll (obj (codes "a") (codes "c")) 256) (gives (answer.Polled (completion 65537 ∷ [])) []) 3 0 ∷ []

-- so does worker 2
abbrev pub second_worker : List Line
second_worker =
    line 2 1 4 (event.PostSend (obj (codes "a") (codes "q2")) (request 4104)) (gives answer.Done []) 3 0
    ∷ line 2 1 5 (event.Transmit (obj (codes "a") (codes "q2"))) (gives (answer.Sent 0) (record { to = address 2; number = Some 0; bytes = addition_2 } ∷ [])) 3 1
    ∷ line 2 2 1 (event.Arrive (address 1) addition_2) (gives (answer.Took took.Old 0 1) (record { to = address 1; number = Some 0; bytes = old_2 } ∷ [])) 4 1
    ∷ line 2 1 6 (event.Arrive (address 2) old_2) (gives (answer.Took took.Landed 0 0) []) 5 0
    ∷ []

-- number 0 polls again
abbrev pub second_poll : List Line
second_poll = line 0 1 7 (event.Poll (obj (codes "a") (codes "c")) 256) (gives (answer.Polled (completion 65538 ∷ [])) []) 5 0 ∷ []

-- number 0 moves b to device 3, where it left no husk
abbrev pub move : List Line
move =
    line 0 2 2 (event.Stop (codes "b") false) (record { answer = answer.Stopped; sent = []; image = Some image }) 5 0
    ∷ line 0 3 0 (event.Restore image) (gives answer.Done []) 5 0
    ∷ []

-- all lines
abbrev pub lines : List Line
lines = first_worker ++ first_poll ++ second_worker ++ second_poll ++ move

-- the entries of their order
abbrev pub entries : List OrderEntry
entries =
    record { device = 1; place = 0; first = 1; count = 0 }
    ∷ record { device = 1; place = 1; first = 1; count = 1 }
    ∷ record { device = 2; place = 0; first = 2; count = 1 }
    ∷ record { device = 1; place = 2; first = 3; count = 0 }
    ∷ record { device = 1; place = 3; first = 3; count = 0 }
    ∷ record { device = 1; place = 4; first = 3; count = 0 }
    ∷ record { device = 1; place = 5; first = 3; count = 1 }
    ∷ record { device = 2; place = 1; first = 4; count = 1 }
    ∷ record { device = 1; place = 6; first = 5; count = 0 }
    ∷ record { device = 1; place = 7; first = 5; count = 0 }
    ∷ record { device = 2; place = 2; first = 5; count = 0 }
    ∷ record { device = 3; place = 0; first = 5; count = 0 }
    ∷ []
