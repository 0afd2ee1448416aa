-- Receivers that are not ready: a wait, and the last of them.
use Rattle.std.specs.Prelude.{ℕ, List, ◌++◌, codes}
use Rattle.example_scripts.specs.TracesOpening.{contexts, pairs}

abbrev pub trace : List ℕ
trace =
    contexts
    ++ codes "v region a.m a.p 4096 64 lwra\n"
    ++ codes "= region 01000002 01000003\n"
    ++ codes "v region b.n b.p 8192 64 lwra\n"
    ++ codes "= region 02000002 02000003\n"
    ++ pairs
    ++ codes "v connect a.q b.q mtu 256 psn 100 200 retry 7 rnr 1 reads 4\n"
    ++ codes "= ok\n"
    ++ codes "v write a.q 1 01000002 4096 4 8192 02000003\n"
    ++ codes "= ok\n"
    ++ codes "v send a.q 2 01000002 4096 4\n"
    ++ codes "= ok\n"
    ++ codes "i run a.q 4\n"
    ++ codes "i dry a.q\n"
    ++ codes "i tell a.q\n"
    ++ codes "i wait a.q\n"
    ++ codes "i dry a.q\n"
    ++ codes "i wait a.q\n"
    ++ codes "v poll a.c 9\n"
    ++ codes "= wc 010001 1 write 0 4\n"
    ++ codes "= wc 010001 2 send 13 0\n"
    ++ codes "end\n"
