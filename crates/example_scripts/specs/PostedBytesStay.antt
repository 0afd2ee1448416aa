-- A request takes its bytes when it is posted.
use Rattle.std.specs.Prelude.{ℕ, List, ◌++◌, codes}
use Rattle.example_scripts.specs.Openings.{usual_opening, opened}

-- the script
abbrev pub script : List ℕ
script =
    usual_opening
    ++ codes "store a.m 4096 deadbeef\n"
    ++ codes "write a.q 1 01000002 4096 4 8192 02000003\n"
    ++ codes "store a.m 4096 00000000\n"
    ++ codes "go a.q\n"
    ++ codes "deliver 1\n"
    ++ codes "load b.n 8192 4\n"

-- what is written for it
abbrev pub written : List ℕ
written =
    opened
    ++ codes "ok\n"
    ++ codes "ok\n"
    ++ codes "ok\n"
    ++ codes "sent 1\n"
    ++ codes "took ack sent 2\n"
    ++ codes "bytes deadbeef\n"
