-- A write of no bytes, and a region that is not dropped while it is used.
use Rattle.std.specs.Prelude.{ℕ, List, ◌++◌, codes}
use Rattle.example_scripts.specs.Openings.{usual_opening, opened}

-- the script
abbrev pub script : List ℕ
script =
    usual_opening
    ++ codes "write a.q 1 00000000 0 0 0 0000dead\n"
    ++ codes "go a.q\n"
    ++ codes "deliver 1\n"
    ++ codes "deliver 2\n"
    ++ codes "poll a.c 4\n"
    ++ codes "write a.q 1 01000002 4096 4 8192 02000003\n"
    ++ codes "drop a.m\n"

-- what is written for it
abbrev pub written : List ℕ
written =
    opened
    ++ codes "ok\n"
    ++ codes "sent 1\n"
    ++ codes "took ack sent 2\n"
    ++ codes "took acked\n"
    ++ codes "wc 010001 1 write 0 0\n"
    ++ codes "ok\n"
    ++ codes "refused InUse\n"
