-- A send finds no receive, waits, and settles.
use Rattle.std.specs.Prelude.{ℕ, List, ◌++◌, codes}
use Rattle.example_scripts.specs.Openings.{usual_opening, opened}

-- the script
abbrev pub script : List ℕ
script =
    usual_opening
    ++ codes "send a.q 1 01000002 4096 4\n"
    ++ codes "go a.q\n"
    ++ codes "deliver 1\n"
    ++ codes "wire 2\n"
    ++ codes "deliver 2\n"
    ++ codes "settle\n"
    ++ codes "recv b.q 9 02000002 8192 8\n"
    ++ codes "settle\n"
    ++ codes "poll b.c 4\n"

-- what is written for it
abbrev pub written : List ℕ
written =
    opened
    ++ codes "ok\n"
    ++ codes "sent 1\n"
    ++ codes "took notready sent 2\n"
    ++ codes "wire 1100ffff00010001000000642000000000000000\n"
    ++ codes "took waits\n"
    ++ codes "quiet 1\n"
    ++ codes "left a.q noreceive\n"
    ++ codes "ok\n"
    ++ codes "quiet 0\n"
    ++ codes "wc 020001 9 recv 0 4\n"
