-- A context moves while a message is under way; the trace does not show it.
use Rattle.std.specs.Prelude.{ℕ, List, ◌++◌, codes}
use Rattle.example_scripts.specs.TracesOpening.{contexts, pairs}

abbrev pub trace : List ℕ
trace =
    contexts
    ++ codes "v region a.m a.p 4096 300 lwra\n"
    ++ codes "= region 01000002 01000003\n"
    ++ codes "v region b.n b.p 8192 300 lwra\n"
    ++ codes "= region 02000002 02000003\n"
    ++ pairs
    ++ codes "v connect a.q b.q mtu 256 psn 100 200 retry 7 rnr 7 reads 4\n"
    ++ codes "= ok\n"
    ++ codes "v write a.q 1 01000002 4096 300 8192 02000003\n"
    ++ codes "= ok\n"
    ++ codes "i run a.q 256\n"
    ++ codes "i known a.q 256\n"
    ++ codes "v write b.q 2 02000002 8192 4 9999 01000003\n"
    ++ codes "= ok\n"
    ++ codes "i refuse b.q access\n"
    ++ codes "i bounce b.q\n"
    ++ codes "v poll b.c 4\n"
    ++ codes "= wc 020001 2 write 10 0\n"
    ++ codes "end\n"
