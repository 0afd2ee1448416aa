-- Packet numbers wrap on the wire.
use Rattle.std.specs.Prelude.{ℕ, List, ◌++◌, codes}
use Rattle.example_scripts.specs.Openings.{opening, opened}

-- the script
abbrev pub script : List ℕ
script =
    opening (codes "64") (codes "16") (codes "psn 16777215 200 retry 7 rnr 7")
    ++ codes "write a.q 1 01000002 4096 4 8192 02000003\n"
    ++ codes "write a.q 2 01000002 4096 4 8192 02000003\n"
    ++ codes "go a.q\n"
    ++ codes "go a.q\n"
    ++ codes "wire 1\n"
    ++ codes "wire 2\n"
    ++ codes "deliver 1\n"
    ++ codes "deliver 2\n"
    ++ codes "deliver 3\n"
    ++ codes "deliver 4\n"
    ++ codes "poll a.c 4\n"

-- what is written for it
abbrev pub written : List ℕ
written =
    opened
    ++ codes "ok\n"
    ++ codes "ok\n"
    ++ codes "sent 1\n"
    ++ codes "sent 2\n"
    ++ codes "wire 0a00ffff0002000180ffffff000000000000200002000003000000040000000000000000\n"
    ++ codes "wire 0a00ffff0002000180000000000000000000200002000003000000040000000000000000\n"
    ++ codes "took ack sent 3\n"
    ++ codes "took ack sent 4\n"
    ++ codes "took acked\n"
    ++ codes "took acked\n"
    ++ codes "wc 010001 1 write 0 4\n"
    ++ codes "wc 010001 2 write 0 4\n"
