-- The first piece of a message comes late.
use Rattle.std.specs.Prelude.{ℕ, List, ◌++◌, codes}
use Rattle.example_scripts.specs.Openings.{opening, opened}

-- the script
abbrev pub script : List ℕ
script =
    opening (codes "1024") (codes "16") (codes "psn 100 200 retry 7 rnr 7")
    ++ codes "write a.q 1 01000002 4096 300 8192 02000003\n"
    ++ codes "go a.q\n"
    ++ codes "go a.q\n"
    ++ codes "wire 1\n"
    ++ codes "wire 2\n"
    ++ codes "deliver 2\n"
    ++ codes "deliver 2\n"
    ++ codes "wire 3\n"
    ++ codes "deliver 1\n"
    ++ codes "deliver 2\n"
    ++ codes "deliver 4\n"
    ++ codes "deliver 3\n"

-- what is written for it
abbrev pub written : List ℕ
written =
    opened
    ++ codes "ok\n"
    ++ codes "sent 1\n"
    ++ codes "sent 2\n"
    ++ codes "wire 0600ffff00020001000000640000000000002000020000030000012c0000000000000000000000000000000000000000000000000000000000000000000000000000000000000000000000000000000000000000000000000000000000000000000000000000000000000000000000000000000000000000000000000000000000000000000000000000000000000000000000000000000000000000000000000000000000000000000000000000000000000000000000000000000000000000000000000000000000000000000000000000000000000000000000000000000000000000000000000000000000000000000000000000000000000000000000000000000000000000000000000000000000000000000000000000000000000000\n"
    ++ codes "wire 0800ffff0002000180000065000000000000000000000000000000000000000000000000000000000000000000000000000000000000000000000000\n"
    ++ codes "took seqnak sent 3\n"
    ++ codes "took silent naksent\n"
    ++ codes "wire 1100ffff00010001000000646000000000000000\n"
    ++ codes "took acted\n"
    ++ codes "took ack sent 4\n"
    ++ codes "took acked\n"
    ++ codes "took silent useless\n"
