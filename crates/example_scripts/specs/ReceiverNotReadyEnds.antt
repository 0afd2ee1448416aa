-- A send finds no receive, and its end may not wait.
use Rattle.std.specs.Prelude.{ℕ, List, ◌++◌, codes}
use Rattle.example_scripts.specs.Openings.{opening, opened}

-- the script
abbrev pub script : List ℕ
script =
    opening (codes "64") (codes "16") (codes "psn 100 200 retry 7 rnr 0")
    ++ codes "send a.q 1 01000002 4096 4\n"
    ++ codes "go a.q\n"
    ++ codes "deliver 1\n"
    ++ codes "wire 2\n"
    ++ codes "deliver 2\n"

-- what is written for it
abbrev pub written : List ℕ
written =
    opened
    ++ codes "ok\n"
    ++ codes "sent 1\n"
    ++ codes "took notready sent 2\n"
    ++ codes "wire 1100ffff00010001000000642000000000000000\n"
    ++ codes "took ended 13\n"
