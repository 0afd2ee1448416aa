-- A Read lands from the offer with its bytes.
use Rattle.std.specs.Prelude.{ℕ, List, ◌++◌, codes}
use Rattle.example_scripts.specs.TracesOpening.{contexts, pairs}

abbrev pub trace : List ℕ
trace =
    contexts
    ++ codes "v region a.m a.p 4096 64 lwra\n"
    ++ codes "= region 01000002 01000003\n"
    ++ codes "v region b.n b.p 8192 64 lwra\n"
    ++ codes "= region 02000002 02000003\n"
    ++ pairs
    ++ codes "v connect a.q b.q mtu 256 psn 100 200 retry 7 rnr 7 reads 4\n"
    ++ codes "= ok\n"
    ++ codes "v read a.q 1 01000002 4096 4 8192 02000003\n"
    ++ codes "= ok\n"
    ++ codes "i turn a.q\n"
    ++ codes "i offer a.q 0 0 4\n"
    ++ codes "v store b.n 8192 01020304\n"
    ++ codes "= ok\n"
    ++ codes "i expire a.q\n"
    ++ codes "i offer a.q 0 0 4\n"
    ++ codes "i land a.q 1\n"
    ++ codes "i tell a.q\n"
    ++ codes "v load a.m 4096 4\n"
    ++ codes "= bytes 01020304\n"
    ++ codes "v write b.q 2 02000002 8192 4 4096 01000003\n"
    ++ codes "= ok\n"
    ++ codes "v write a.q 3 01000002 4096 4 8192 02000003\n"
    ++ codes "= ok\n"
    ++ codes "v load a.m 4096 4\n"
    ++ codes "= bytes 01020304\n"
    ++ codes "i run b.q 4\n"
    ++ codes "v poll a.c 9\n"
    ++ codes "= wc 010001 1 read 0 4\n"
    ++ codes "end\n"
