-- Two queue pairs share a completion queue of one entry.
use Rattle.std.specs.Prelude.{ℕ, List, ◌++◌, codes}
use Rattle.example_scripts.specs.Openings.{opening, opened}

-- the script
abbrev pub script : List ℕ
script =
    opening (codes "64") (codes "1") (codes "psn 100 200 retry 7 rnr 7")
    ++ codes "qp a.r a.p a.c a.c 8 8\n"
    ++ codes "qp b.r b.p b.c b.c 8 8\n"
    ++ codes "connect a.r b.r mtu 256 psn 100 200 retry 7 rnr 7 reads 4\n"
    ++ codes "write a.q 1 01000002 4096 4 8192 02000003\n"
    ++ codes "write a.r 1 01000002 4096 4 8192 02000003\n"
    ++ codes "go a.q\n"
    ++ codes "deliver 1\n"
    ++ codes "deliver 2\n"
    ++ codes "write a.r 1 01000002 4096 4 8192 02000003\n"
    ++ codes "poll a.c 4\n"
    ++ codes "write a.r 1 01000002 4096 4 8192 02000003\n"

-- what is written for it
abbrev pub written : List ℕ
written =
    opened
    ++ codes "qp 010002\n"
    ++ codes "qp 020002\n"
    ++ codes "ok\n"
    ++ codes "ok\n"
    ++ codes "refused CqFull\n"
    ++ codes "sent 1\n"
    ++ codes "took ack sent 2\n"
    ++ codes "took acked\n"
    ++ codes "refused CqFull\n"
    ++ codes "wc 010001 1 write 0 4\n"
    ++ codes "ok\n"
