-- A script with requests that are refused.
use Rattle.std.specs.Prelude.{ℕ, List, ◌++◌, codes}
use Rattle.example_scripts.specs.RecordsOpening.{contexts, pairs}

abbrev pub script : List ℕ
script =
    contexts
    ++ codes "region a.m a.p 4096 64 lwra\n"
    ++ codes "region b.n b.p 8192 64 lwra\n"
    ++ pairs
    ++ codes "connect a.q b.q mtu 256 psn 100 200 retry 0 rnr 7 reads 4\n"
    ++ codes "send a.q 1 01000002 4096 8\n"
    ++ codes "recv b.q 9 02000002 8192 4\n"
    ++ codes "go a.q\n"
    ++ codes "deliver 1\n"
    ++ codes "deliver 2\n"
    ++ codes "qp a.r a.p a.c a.c 8 8\n"
    ++ codes "qp b.r b.p b.c b.c 8 8\n"
    ++ codes "connect a.r b.r mtu 256 psn 5 6 retry 0 rnr 7 reads 4\n"
    ++ codes "add a.r 2 01000002 4096 8193 02000003 5\n"
    ++ codes "go a.r\n"
    ++ codes "expire a.r\n"
    ++ codes "deliver 3\n"
    ++ codes "deliver 4\n"
    ++ codes "poll a.c 9\n"
    ++ codes "poll b.c 9\n"
