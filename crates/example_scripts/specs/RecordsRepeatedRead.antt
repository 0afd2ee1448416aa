-- A script with a Read that is asked for again inside.
use Rattle.std.specs.Prelude.{ℕ, List, ◌++◌, codes}
use Rattle.example_scripts.specs.RecordsOpening.{contexts, pairs}

abbrev pub script : List ℕ
script =
    contexts
    ++ codes "region a.m a.p 4096 600 lwra\n"
    ++ codes "region b.n b.p 8192 600 lwra\n"
    ++ pairs
    ++ codes "connect a.q b.q mtu 256 psn 100 200 retry 7 rnr 7 reads 4\n"
    ++ codes "read a.q 1 01000002 4096 520 8192 02000003\n"
    ++ codes "go a.q\n"
    ++ codes "deliver 1\n"
    ++ codes "deliver 2\n"
    ++ codes "expire a.q\n"
    ++ codes "go a.q\n"
    ++ codes "deliver 5\n"
    ++ codes "deliver 1\n"
    ++ codes "deliver 3\n"
    ++ codes "deliver 6\n"
    ++ codes "deliver 7\n"
    ++ codes "poll a.c 9\n"
