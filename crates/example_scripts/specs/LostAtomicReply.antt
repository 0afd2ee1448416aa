-- The reply to an addition is lost, and the addition acts once.
use Rattle.std.specs.Prelude.{ℕ, List, ◌++◌, codes}
use Rattle.example_scripts.specs.Openings.{usual_opening, opened}

-- an addition is sent and acts, and its reply is lost
abbrev pub lost : List ℕ
lost = codes "add a.q 1 01000002 4096 8192 02000003 5\ngo a.q\ndeliver 1\nlose 2\n"

-- what is written for that
abbrev pub lost_written : List ℕ
lost_written = codes "ok\nsent 1\ntook old sent 2\nok\n"

-- looks at the completions and at both words
abbrev pub looks : List ℕ
looks = codes "poll a.c 4\nload a.m 4096 8\nload b.n 8192 8\n"

-- what they show
abbrev pub shown : List ℕ
shown = codes "wc 010001 1 add 0 8\nbytes 0000000000000000\nbytes 0000000000000005\n"

-- the script
abbrev pub script : List ℕ
script =
    usual_opening
    ++ lost
    ++ codes "expire a.q\n"
    ++ codes "go a.q\n"
    ++ codes "deliver 3\n"
    ++ codes "deliver 4\n"
    ++ looks

-- what is written for it
abbrev pub written : List ℕ
written =
    opened
    ++ lost_written
    ++ codes "expired 1\n"
    ++ codes "sent 3\n"
    ++ codes "took old sent 4\n"
    ++ codes "took landed\n"
    ++ shown
