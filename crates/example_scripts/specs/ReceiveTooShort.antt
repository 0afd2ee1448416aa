-- A send is longer than its receive.
use Rattle.std.specs.Prelude.{ℕ, List, ◌++◌, codes}
use Rattle.example_scripts.specs.Openings.{usual_opening, opened}

-- the script
abbrev pub script : List ℕ
script =
    usual_opening
    ++ codes "recv b.q 9 02000002 8192 2\n"
    ++ codes "send a.q 1 01000002 4096 4\n"
    ++ codes "go a.q\n"
    ++ codes "deliver 1\n"
    ++ codes "wire 2\n"
    ++ codes "deliver 2\n"
    ++ codes "poll b.c 4\n"

-- what is written for it
abbrev pub written : List ℕ
written =
    opened
    ++ codes "ok\n"
    ++ codes "ok\n"
    ++ codes "sent 1\n"
    ++ codes "took refused length sent 2\n"
    ++ codes "wire 1100ffff00010001000000646100000000000000\n"
    ++ codes "took ended 9\n"
    ++ codes "wc 020001 9 recv 1 0\n"
