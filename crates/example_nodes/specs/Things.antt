-- Scripts of a node, the datagrams that wait on its link, and what two other descriptions of these rules give for them.
use Rattle.std.specs.Prelude.{Some, ℕ, List, [], ◌∷◌, ◌++◌, codes}
use Rattle.host_ports.specs.Depots.{nothing}
use Rattle.host_ports.specs.Links.{Addressed}
use Rattle.rdma_types.specs.declared.requests.Address.{Address}
use Rattle.example_nodes.specs.Evaluate.{spelled}
use Rattle.rdma_types.specs.declared.names.Name.{Name}
use Rattle.node_rules.specs.Outside.{Outside, set}

-- 10.0.0.1 and 10.0.0.2 with the port of RoCEv2
abbrev pub one : Address
one = record { ip = 167772161; port = 4791 }

abbrev pub two : Address
two = record { ip = 167772162; port = 4791 }

-- these datagrams wait, the clock is to answer these numbers, the depot is empty, and nothing was sent or written
abbrev pub outside : List Addressed → List ℕ → Outside
outside waiting to_come = record { waiting = waiting; sent = []; to_come = to_come; held = nothing; text = [] }

-- the same with these bytes in the depot under a name, and nothing to arrive
abbrev pub holding : Name → List ℕ → Outside
holding name bytes = record (outside [] []) { held = set nothing name (Some bytes) }

-- a datagram from or to 10.0.0.1
abbrev pub with_one : List ℕ → Addressed
with_one digits = (one, spelled digits)

-- ---- a write arrives

-- one end of a connection is made, and serves; the last line shows the bytes that were written
abbrev pub serving_script : List ℕ
serving_script =
    codes "context b\n"
    ++ codes "domain b.p\n"
    ++ codes "region b.n b.p 8192 64 lwra\n"
    ++ codes "cq b.c 16\n"
    ++ codes "qp b.q b.p b.c b.c 8 8\n"
    ++ codes "link b.q 010001 10.0.0.1 mtu 256 psn 200 100 retry 7 rnr 7 reads 4\n"
    ++ codes "serve 3\n"
    ++ codes "load b.n 8192 4\n"

-- the answers to its lines before the last
abbrev pub serving_text : List ℕ
serving_text =
    codes "ok\n"
    ++ codes "ok\n"
    ++ codes "region 02000002 02000003\n"
    ++ codes "ok\n"
    ++ codes "qp 020001\n"
    ++ codes "ok\n"
    ++ codes "served 1\n"

-- a write of four bytes
abbrev pub write : Addressed
write = with_one (codes "0a00ffff000200018000006400000000000020000200000300000004deadbeef00000000")

-- the same cut to its first 15 bytes, with the local key, with another length, and with the number past the expected one
abbrev pub cut : Addressed
cut = with_one (codes "0a00ffff0002000180000064000000")

abbrev pub under_the_local_key : Addressed
under_the_local_key = with_one (codes "0a00ffff000200018000006400000000000020000200000200000004deadbeef00000000")

abbrev pub of_another_length : Addressed
of_another_length = with_one (codes "0a00ffff000200018000006400000000000020000200000300000005deadbeef00000000")

abbrev pub ahead : Addressed
ahead = with_one (codes "0a00ffff000200018000006500000000000020000200000300000004deadbeef00000000")

-- ---- a context is stopped to a file and restored from it

-- the stopped context is loaded and restored in vain while its husk stands there; at the end its dump is gone
abbrev pub moving_script : List ℕ
moving_script =
    codes "context b\n"
    ++ codes "domain b.p\n"
    ++ codes "region b.n b.p 8192 4 lwra\n"
    ++ codes "cq b.c 16\n"
    ++ codes "qp b.q b.p b.c b.c 8 8\n"
    ++ codes "link b.q 010001 10.0.0.1 mtu 256 psn 200 100 retry 7 rnr 7 reads 4\n"
    ++ codes "store b.n 8192 cafe\n"
    ++ codes "stop b f\n"
    ++ codes "load b.n 8192 4\n"
    ++ codes "restore f\n"
    ++ codes "release b\n"
    ++ codes "restore f\n"
    ++ codes "load b.n 8192 4\n"
    ++ codes "go b.q\n"
    ++ codes "serve 1\n"
    ++ codes "restore f\n"

-- what is written for it
abbrev pub moving_text : List ℕ
moving_text =
    codes "ok\n"
    ++ codes "ok\n"
    ++ codes "region 02000002 02000003\n"
    ++ codes "ok\n"
    ++ codes "qp 020001\n"
    ++ codes "ok\n"
    ++ codes "ok\n"
    ++ codes "stopped\n"
    ++ codes "refused Stopped\n"
    ++ codes "refused NumberTaken\n"
    ++ codes "ok\n"
    ++ codes "ok\n"
    ++ codes "bytes cafe0000\n"
    ++ codes "sent 1\n"
    ++ codes "served 1\n"

-- a RESUME goes out, the write that waited is acknowledged, and the end, which no RESUME_ACK reached, sends its RESUME again
abbrev pub moving_sent : List Addressed
moving_sent =
    with_one (codes "1e00ffff0001000100000000000000010a00000212b7000000000000")
    ∷ with_one (codes "1100ffff00010001000000641f00000100000000")
    ∷ with_one (codes "1e00ffff0001000100000000000000010a00000212b7000000000000")
    ∷ []

-- ---- an end that hears nothing expires after 100 ticks

-- a write is posted, and four turns are served; the last line is bad
abbrev pub waiting_script : List ℕ
waiting_script =
    codes "context b\n"
    ++ codes "domain b.p\n"
    ++ codes "region b.n b.p 8192 4 lwra\n"
    ++ codes "cq b.c 16\n"
    ++ codes "qp b.q b.p b.c b.c 8 8\n"
    ++ codes "link b.q 010001 10.0.0.1 mtu 256 psn 200 100 retry 7 rnr 7 reads 4\n"
    ++ codes "write b.q 1 02000002 8192 4 8192 01000003\n"
    ++ codes "serve 3\n"
    ++ codes "serve 1\n"
    ++ codes "go b.q\n"
    ++ codes "expire b.q\n"
    ++ codes "go b.q\n"
    ++ codes "fly\n"

-- it is sent in the first turn; 99 ticks later nothing expires, and 100 ticks later it does, so that it is sent in the next
-- turn again
abbrev pub waiting_text : List ℕ
waiting_text =
    codes "ok\n"
    ++ codes "ok\n"
    ++ codes "region 02000002 02000003\n"
    ++ codes "ok\n"
    ++ codes "qp 020001\n"
    ++ codes "ok\n"
    ++ codes "ok\n"
    ++ codes "served 0\n"
    ++ codes "served 0\n"
    ++ codes "idle\n"
    ++ codes "expired 2\n"
    ++ codes "sent 3\n"

-- the write, three times
abbrev pub waiting_sent : List Addressed
waiting_sent =
    with_one (codes "0a00ffff00010001800000c8000000000000200001000003000000040000000000000000")
    ∷ with_one (codes "0a00ffff00010001800000c8000000000000200001000003000000040000000000000000")
    ∷ with_one (codes "0a00ffff00010001800000c8000000000000200001000003000000040000000000000000")
    ∷ []

-- ---- when an end expires

-- one end of a connection is made
abbrev pub opening : List ℕ
opening =
    codes "context b\n"
    ++ codes "domain b.p\n"
    ++ codes "region b.n b.p 8192 4 lwra\n"
    ++ codes "cq b.c 16\n"
    ++ codes "qp b.q b.p b.c b.c 8 8\n"
    ++ codes "link b.q 010001 10.0.0.1 mtu 256 psn 200 100 retry 7 rnr 7 reads 4\n"

-- the answers to it
abbrev pub opening_text : List ℕ
opening_text =
    codes "ok\n"
    ++ codes "ok\n"
    ++ codes "region 02000002 02000003\n"
    ++ codes "ok\n"
    ++ codes "qp 020001\n"
    ++ codes "ok\n"

-- a write is sent in the first turn; the moment of that turn counts in each later `serve`, and `go` is no turn
abbrev pub remembering_script : List ℕ
remembering_script = opening ++ codes "write b.q 1 02000002 8192 4 8192 01000003\nserve 1\nserve 1\ngo b.q\nserve 1\ngo b.q\nserve 1\ngo b.q\n"

-- it expires 100 ticks after that moment, and 150 ticks after it again
abbrev pub remembering_text : List ℕ
remembering_text = opening_text ++ codes "ok\nserved 0\nserved 0\nidle\nserved 0\nsent 2\nserved 0\nsent 3\n"

-- an end that was never active counts from the first turn, and a datagram that is silent does not make it active
abbrev pub silent_script : List ℕ
silent_script = opening ++ codes "write b.q 1 02000002 8192 4 8192 01000003\ngo b.q\nserve 2\ngo b.q\n"

-- bytes that are no datagram, and an acknowledge of a number that was not sent
abbrev pub silent_waiting : List Addressed
silent_waiting = with_one (codes "00") ∷ with_one (codes "1100ffff00020001000000c91f00000000000000") ∷ []

-- it expires in the second turn
abbrev pub silent_answers : List ℕ
silent_answers = opening_text ++ codes "ok\nsent 1\nserved 2\nsent 2\n"

-- a send finds no receive, and its timer is over after 100 ticks
abbrev pub timer_script : List ℕ
timer_script = opening ++ codes "send b.q 1 02000002 8192 4\ngo b.q\nserve 3\ngo b.q\nrnr b.q\n"

-- receiver not ready
abbrev pub timer_waiting : List Addressed
timer_waiting = with_one (codes "1100ffff00020001000000c82000000000000000") ∷ []

-- it was sent again
abbrev pub timer_text : List ℕ
timer_text = opening_text ++ codes "ok\nsent 1\nserved 1\nidle\nnotwaiting\n"

-- ---- a stop beside a partner that moves

-- a husk of the partner answered; a lone device then refuses to stop, and puts nothing in the depot
abbrev pub paused_script : List ℕ
paused_script = opening ++ codes "serve 1\nstop b f\nrestore f\n"

-- NAK_STOPPED
abbrev pub paused_waiting : List Addressed
paused_waiting = with_one (codes "1100ffff00020001000000006500000000000000") ∷ []

-- what is written
abbrev pub paused_text : List ℕ
paused_text = opening_text ++ codes "served 1\nrefused PeerMoving\n"

-- ---- what is no dump

-- a dump that ends behind the first 19 of its bytes
abbrev pub short_dump : List ℕ
short_dump = spelled (codes "4d494744554d50000001016500000000000000")
