-- A fence stands through a move.
use Rattle.std.specs.Prelude.{ℕ, List, ◌++◌, codes}
use Rattle.example_scripts.specs.Openings.{usual_opening, opened}

-- the script
abbrev pub script : List ℕ
script =
    usual_opening
    ++ codes "read a.q 1 01000002 4096 4 8192 02000003\n"
    ++ codes "write a.q 2 01000002 4100 4 8196 02000003 fence\n"
    ++ codes "go a.q\n"
    ++ codes "go a.q\n"
    ++ codes "stop a\n"
    ++ codes "restore a 3\n"
    ++ codes "go a.q\n"
    ++ codes "deliver 2\n"
    ++ codes "deliver 3\n"
    ++ codes "go a.q\n"
    ++ codes "go a.q\n"

-- what is written for it
abbrev pub written : List ℕ
written =
    opened
    ++ codes "ok\n"
    ++ codes "ok\n"
    ++ codes "sent 1\n"
    ++ codes "fenced\n"
    ++ codes "stopped\n"
    ++ codes "ok\n"
    ++ codes "sent 2\n"
    ++ codes "took resumed sent 3\n"
    ++ codes "took running\n"
    ++ codes "sent 4\n"
    ++ codes "fenced\n"
