-- A write without the right is refused, and nothing is written.
use Rattle.std.specs.Prelude.{ℕ, List, ◌++◌, codes}
use Rattle.example_scripts.specs.Openings.{usual_opening, opened}

-- the script
abbrev pub script : List ℕ
script =
    usual_opening
    ++ codes "write a.q 1 01000002 4096 2 8255 02000003\n"
    ++ codes "go a.q\n"
    ++ codes "deliver 1\n"
    ++ codes "wire 2\n"
    ++ codes "deliver 2\n"
    ++ codes "poll a.c 4\n"
    ++ codes "load b.n 8255 1\n"

-- what is written for it
abbrev pub written : List ℕ
written =
    opened
    ++ codes "ok\n"
    ++ codes "sent 1\n"
    ++ codes "took refused access sent 2\n"
    ++ codes "wire 1100ffff00010001000000646200000000000000\n"
    ++ codes "took ended 10\n"
    ++ codes "wc 010001 1 write 10 0\n"
    ++ codes "bytes 00\n"
