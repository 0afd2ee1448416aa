-- A script with one write, which its owner learns of.
use Rattle.std.specs.Prelude.{ℕ, List, ◌++◌, codes}
use Rattle.example_scripts.specs.RecordsOpening.{contexts, pairs}

abbrev pub script : List ℕ
script =
    contexts
    ++ codes "region a.m a.p 4096 64 lwra\n"
    ++ codes "region b.n b.p 8192 64 lwra\n"
    ++ pairs
    ++ codes "connect a.q b.q mtu 256 psn 100 200 retry 7 rnr 7 reads 4\n"
    ++ codes "store a.m 4096 deadbeef\n"
    ++ codes "write a.q 1 01000002 4096 4 8192 02000003\n"
    ++ codes "go a.q\n"
    ++ codes "deliver 1\n"
    ++ codes "wire 2\n"
    ++ codes "deliver 2\n"
    ++ codes "poll a.c 4\n"
    ++ codes "poll a.c 4\n"
    ++ codes "load b.n 8192 4\n"
