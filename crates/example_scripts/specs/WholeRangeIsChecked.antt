-- The whole range of a write is checked before its first piece.
use Rattle.std.specs.Prelude.{ℕ, List, ◌++◌, codes}
use Rattle.example_scripts.specs.Openings.{opening, opened}

-- the script
abbrev pub script : List ℕ
script =
    opening (codes "1024") (codes "16") (codes "psn 100 200 retry 7 rnr 7")
    ++ codes "write a.q 1 01000002 4096 600 8704 02000003\n"
    ++ codes "go a.q\n"
    ++ codes "deliver 1\n"

-- what is written for it
abbrev pub written : List ℕ
written =
    opened
    ++ codes "ok\n"
    ++ codes "sent 1\n"
    ++ codes "took refused access sent 2\n"
