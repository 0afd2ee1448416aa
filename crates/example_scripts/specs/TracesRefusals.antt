-- Requests that are refused, and an expiry that is the last.
use Rattle.std.specs.Prelude.{ℕ, List, ◌++◌, codes}
use Rattle.example_scripts.specs.TracesOpening.{contexts, pairs}

abbrev pub trace : List ℕ
trace =
    contexts
    ++ codes "v region a.m a.p 4096 64 lwra\n"
    ++ codes "= region 01000002 01000003\n"
    ++ codes "v region b.n b.p 8192 64 lwra\n"
    ++ codes "= region 02000002 02000003\n"
    ++ pairs
    ++ codes "v connect a.q b.q mtu 256 psn 100 200 retry 0 rnr 7 reads 4\n"
    ++ codes "= ok\n"
    ++ codes "v send a.q 1 01000002 4096 8\n"
    ++ codes "= ok\n"
    ++ codes "v recv b.q 9 02000002 8192 4\n"
    ++ codes "= ok\n"
    ++ codes "i refuse a.q length\n"
    ++ codes "i bounce a.q\n"
    ++ codes "v qp a.r a.p a.c a.c 8 8\n"
    ++ codes "= qp 010002\n"
    ++ codes "v qp b.r b.p b.c b.c 8 8\n"
    ++ codes "= qp 020002\n"
    ++ codes "v connect a.r b.r mtu 256 psn 5 6 retry 0 rnr 7 reads 4\n"
    ++ codes "= ok\n"
    ++ codes "v add a.r 2 01000002 4096 8193 02000003 5\n"
    ++ codes "= ok\n"
    ++ codes "i expire a.r\n"
    ++ codes "i refuse a.r invalid\n"
    ++ codes "v poll a.c 9\n"
    ++ codes "= wc 010001 1 send 9 0\n"
    ++ codes "= wc 010002 2 add 12 0\n"
    ++ codes "v poll b.c 9\n"
    ++ codes "= wc 020001 9 recv 1 0\n"
    ++ codes "end\n"
