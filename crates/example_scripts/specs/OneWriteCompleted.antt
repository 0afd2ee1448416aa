-- A write is sent, acts at the partner, is acknowledged and completes once.
use Rattle.std.specs.Prelude.{ℕ, List, ◌++◌, codes}
use Rattle.example_scripts.specs.Openings.{usual_opening, opened}

-- the script
abbrev pub script : List ℕ
script =
    usual_opening
    ++ codes "store a.m 4096 deadbeef\n"
    ++ codes "write a.q 1 01000002 4096 4 8192 02000003\n"
    ++ codes "go a.q\n"
    ++ codes "wire 1\n"
    ++ codes "deliver 1\n"
    ++ codes "wire 2\n"
    ++ codes "deliver 2\n"
    ++ codes "poll a.c 4\n"
    ++ codes "poll a.c 4\n"
    ++ codes "load b.n 8192 4\n"

-- what is written for it
abbrev pub written : List ℕ
written =
    opened
    ++ codes "ok\n"
    ++ codes "ok\n"
    ++ codes "sent 1\n"
    ++ codes "wire 0a00ffff000200018000006400000000000020000200000300000004deadbeef00000000\n"
    ++ codes "took ack sent 2\n"
    ++ codes "wire 1100ffff00010001000000641f00000100000000\n"
    ++ codes "took acked\n"
    ++ codes "wc 010001 1 write 0 4\n"
    ++ codes "none\n"
    ++ codes "bytes deadbeef\n"
