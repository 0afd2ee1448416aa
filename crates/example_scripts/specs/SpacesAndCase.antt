-- A script with spaces, a comment, digits in upper case, a context whose device is not there, and an answer that does not count.
use Rattle.std.specs.Prelude.{ℕ, List, ◌++◌, codes}
use Rattle.example_scripts.specs.RecordsOpening.{contexts, pairs}

abbrev pub script : List ℕ
script =
    contexts
    ++ codes "region a.m a.p 4096 64 lwra\n"
    ++ codes "region b.n b.p 8192 64 lwra\n"
    ++ pairs
    ++ codes "connect a.q b.q mtu 256 psn 100 200 retry 7 rnr 7 reads 4\n"
    ++ codes "  store   a.m 4096  DEADBEEF \n"
    ++ codes "# nothing\n"
    ++ codes "\n"
    ++ codes "write a.q 1 01000002 4096 4 8192 02000003 imm 0000ABCD  quiet\n"
    ++ codes "go a.q\n"
    ++ codes "deliver 1\n"
    ++ codes "domain a.p\n"
    ++ codes "context c 9\n"
    ++ codes "stop b\n"
    ++ codes "load b.n 8192 4\n"

-- what is recorded of it
abbrev pub trace : List ℕ
trace =
    codes "v context a made\n"
    ++ codes "= ok\n"
    ++ codes "v context b made\n"
    ++ codes "= ok\n"
    ++ codes "v domain a.p\n"
    ++ codes "= ok\n"
    ++ codes "v domain b.p\n"
    ++ codes "= ok\n"
    ++ codes "v region a.m a.p 4096 64 lwra\n"
    ++ codes "= region 01000002 01000003\n"
    ++ codes "v region b.n b.p 8192 64 lwra\n"
    ++ codes "= region 02000002 02000003\n"
    ++ codes "v cq a.c 16\n"
    ++ codes "= ok\n"
    ++ codes "v cq b.c 16\n"
    ++ codes "= ok\n"
    ++ codes "v qp a.q a.p a.c a.c 8 8\n"
    ++ codes "= qp 010001\n"
    ++ codes "v qp b.q b.p b.c b.c 8 8\n"
    ++ codes "= qp 020001\n"
    ++ codes "v connect a.q b.q mtu 256 psn 100 200 retry 7 rnr 7 reads 4\n"
    ++ codes "= ok\n"
    ++ codes "v store a.m 4096 deadbeef\n"
    ++ codes "= ok\n"
    ++ codes "v write a.q 1 01000002 4096 4 8192 02000003 imm 0000abcd quiet\n"
    ++ codes "= ok\n"
    ++ codes "i dry a.q\n"
    ++ codes "v domain a.p\n"
    ++ codes "= refused NumberTaken\n"
    ++ codes "v context c none\n"
    ++ codes "= refused NoSuch\n"
    ++ codes "end\n"
