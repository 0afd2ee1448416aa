-- A script with a move inside a message.
use Rattle.std.specs.Prelude.{ℕ, List, ◌++◌, codes}
use Rattle.example_scripts.specs.RecordsOpening.{contexts, pairs}

abbrev pub script : List ℕ
script =
    contexts
    ++ codes "region a.m a.p 4096 300 lwra\n"
    ++ codes "region b.n b.p 8192 300 lwra\n"
    ++ pairs
    ++ codes "connect a.q b.q mtu 256 psn 100 200 retry 7 rnr 7 reads 4\n"
    ++ codes "write a.q 1 01000002 4096 300 8192 02000003\n"
    ++ codes "go a.q\n"
    ++ codes "go a.q\n"
    ++ codes "deliver 1\n"
    ++ codes "stop b\n"
    ++ codes "deliver 2\n"
    ++ codes "deliver 3\n"
    ++ codes "dump b\n"
    ++ codes "restore b 3\n"
    ++ codes "go b.q\n"
    ++ codes "deliver 4\n"
    ++ codes "deliver 5\n"
    ++ codes "go a.q\n"
    ++ codes "deliver 6\n"
    ++ codes "deliver 7\n"
    ++ codes "write b.q 2 02000002 8192 4 9999 01000003\n"
    ++ codes "go b.q\n"
    ++ codes "deliver 8\n"
    ++ codes "deliver 9\n"
    ++ codes "poll b.c 4\n"
