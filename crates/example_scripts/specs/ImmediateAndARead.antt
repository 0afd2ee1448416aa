-- A write with immediate, and a read.
use Rattle.std.specs.Prelude.{ℕ, List, ◌++◌, codes}
use Rattle.example_scripts.specs.Openings.{usual_opening, opened}

-- the script
abbrev pub script : List ℕ
script =
    usual_opening
    ++ codes "recv b.q 9 02000002 8192 8\n"
    ++ codes "send a.q 1 01000002 4096 4 imm 0000002a\n"
    ++ codes "go a.q\n"
    ++ codes "wire 1\n"
    ++ codes "deliver 1\n"
    ++ codes "deliver 2\n"
    ++ codes "poll b.c 4\n"
    ++ codes "read a.q 2 01000002 4096 4 8192 02000003\n"
    ++ codes "go a.q\n"
    ++ codes "deliver 3\n"
    ++ codes "wire 4\n"
    ++ codes "deliver 4\n"

-- what is written for it
abbrev pub written : List ℕ
written =
    opened
    ++ codes "ok\n"
    ++ codes "ok\n"
    ++ codes "sent 1\n"
    ++ codes "wire 0500ffff00020001800000640000002a0000000000000000\n"
    ++ codes "took ack sent 2\n"
    ++ codes "took acked\n"
    ++ codes "wc 020001 9 recv 0 4 imm 0000002a\n"
    ++ codes "ok\n"
    ++ codes "sent 3\n"
    ++ codes "took bytes sent 4\n"
    ++ codes "wire 1000ffff00010001000000651f0000020000000000000000\n"
    ++ codes "took landed\n"
