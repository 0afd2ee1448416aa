-- A husk answers for a context that moved, and the partner pauses.
use Rattle.std.specs.Prelude.{ℕ, List, ◌++◌, codes}
use Rattle.example_scripts.specs.Openings.{usual_opening, opened}

-- the script
abbrev pub script : List ℕ
script =
    usual_opening
    ++ codes "store a.m 4096 deadbeef\n"
    ++ codes "write a.q 1 01000002 4096 4 8192 02000003\n"
    ++ codes "go a.q\n"
    ++ codes "stop b\n"
    ++ codes "deliver 1\n"
    ++ codes "wire 2\n"
    ++ codes "deliver 2\n"
    ++ codes "expire a.q\n"
    ++ codes "go a.q\n"

-- what is written for it
abbrev pub written : List ℕ
written =
    opened
    ++ codes "ok\n"
    ++ codes "ok\n"
    ++ codes "sent 1\n"
    ++ codes "stopped\n"
    ++ codes "took stopped sent 2\n"
    ++ codes "wire 1100ffff00010001000000646500000000000000\n"
    ++ codes "took paused\n"
    ++ codes "notcounted paused\n"
    ++ codes "waiting\n"
