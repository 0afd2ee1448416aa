-- An atomic at an address that is no multiple of eight is refused.
use Rattle.std.specs.Prelude.{ℕ, List, ◌++◌, codes}
use Rattle.example_scripts.specs.Openings.{usual_opening, opened}

-- the script
abbrev pub script : List ℕ
script =
    usual_opening
    ++ codes "add a.q 1 01000002 4096 8193 02000003 5\n"
    ++ codes "go a.q\n"
    ++ codes "deliver 1\n"
    ++ codes "deliver 2\n"

-- what is written for it
abbrev pub written : List ℕ
written =
    opened
    ++ codes "ok\n"
    ++ codes "sent 1\n"
    ++ codes "took refused invalid sent 2\n"
    ++ codes "took ended 9\n"
