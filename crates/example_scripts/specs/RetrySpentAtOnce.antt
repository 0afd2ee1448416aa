-- An end without retries fails at its first expiry.
use Rattle.std.specs.Prelude.{ℕ, List, ◌++◌, codes}
use Rattle.example_scripts.specs.Openings.{opening, opened}

-- the script
abbrev pub script : List ℕ
script =
    opening (codes "64") (codes "16") (codes "psn 100 200 retry 0 rnr 7")
    ++ codes "write a.q 1 01000002 4096 4 8192 02000003\n"
    ++ codes "go a.q\n"
    ++ codes "expire a.q\n"
    ++ codes "poll a.c 4\n"

-- what is written for it
abbrev pub written : List ℕ
written =
    opened
    ++ codes "ok\n"
    ++ codes "sent 1\n"
    ++ codes "spent\n"
    ++ codes "wc 010001 1 write 12 0\n"
