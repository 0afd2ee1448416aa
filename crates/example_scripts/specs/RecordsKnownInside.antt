-- A script with a message whose owner learns of bytes inside it, and one acknowledgement of two requests.
use Rattle.std.specs.Prelude.{ℕ, List, ◌++◌, codes}
use Rattle.example_scripts.specs.RecordsOpening.{contexts, pairs}

abbrev pub script : List ℕ
script =
    contexts
    ++ codes "region a.m a.p 4096 600 lwra\n"
    ++ codes "region b.n b.p 8192 600 lwra\n"
    ++ pairs
    ++ codes "connect a.q b.q mtu 256 psn 100 200 retry 7 rnr 7 reads 4\n"
    ++ codes "write a.q 1 01000002 4096 600 8192 02000003\n"
    ++ codes "go a.q\n"
    ++ codes "go a.q\n"
    ++ codes "go a.q\n"
    ++ codes "deliver 1\n"
    ++ codes "deliver 2\n"
    ++ codes "expire a.q\n"
    ++ codes "go a.q\n"
    ++ codes "deliver 4\n"
    ++ codes "deliver 5\n"
    ++ codes "deliver 3\n"
    ++ codes "deliver 6\n"
    ++ codes "read a.q 2 01000002 4096 300 8192 02000003\n"
    ++ codes "add a.q 3 01000002 4400 8192 02000003 5\n"
    ++ codes "write a.q 4 01000002 4096 4 8300 02000003\n"
    ++ codes "go a.q\n"
    ++ codes "deliver 7\n"
    ++ codes "deliver 9\n"
    ++ codes "deliver 8\n"
    ++ codes "deliver 9\n"
    ++ codes "go a.q\n"
    ++ codes "go a.q\n"
    ++ codes "deliver 10\n"
    ++ codes "deliver 11\n"
    ++ codes "deliver 12\n"
    ++ codes "deliver 13\n"
    ++ codes "deliver 12\n"
    ++ codes "poll a.c 9\n"
