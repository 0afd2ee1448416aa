-- An end with seven retries fails at its eighth expiry.
use Rattle.std.specs.Prelude.{ℕ, List, ◌++◌, codes}
use Rattle.example_scripts.specs.Openings.{usual_opening, opened}

-- two expiries, and the write is sent again
abbrev pub again : List ℕ
again = codes "expire a.q\nexpire a.q\ngo a.q\n"

-- the script
abbrev pub script : List ℕ
script =
    usual_opening
    ++ codes "write a.q 1 01000002 4096 4 8192 02000003\n"
    ++ codes "go a.q\n"
    ++ again
    ++ again
    ++ again
    ++ again
    ++ again
    ++ again
    ++ again
    ++ codes "expire a.q\n"

-- what is written for it
abbrev pub written : List ℕ
written =
    opened
    ++ codes "ok\n"
    ++ codes "sent 1\n"
    ++ codes "expired 1\n"
    ++ codes "notcounted nothing\n"
    ++ codes "sent 2\n"
    ++ codes "expired 2\n"
    ++ codes "notcounted nothing\n"
    ++ codes "sent 3\n"
    ++ codes "expired 3\n"
    ++ codes "notcounted nothing\n"
    ++ codes "sent 4\n"
    ++ codes "expired 4\n"
    ++ codes "notcounted nothing\n"
    ++ codes "sent 5\n"
    ++ codes "expired 5\n"
    ++ codes "notcounted nothing\n"
    ++ codes "sent 6\n"
    ++ codes "expired 6\n"
    ++ codes "notcounted nothing\n"
    ++ codes "sent 7\n"
    ++ codes "expired 7\n"
    ++ codes "notcounted nothing\n"
    ++ codes "sent 8\n"
    ++ codes "spent\n"
