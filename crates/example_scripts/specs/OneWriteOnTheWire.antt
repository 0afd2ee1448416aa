-- The bytes of the one datagram of a write.
use Rattle.std.specs.Prelude.{ℕ, List, ◌++◌, codes}
use Rattle.example_scripts.specs.Openings.{usual_opening, opened}

-- the script
abbrev pub script : List ℕ
script =
    usual_opening
    ++ codes "store a.m 4096 deadbeef\n"
    ++ codes "write a.q 1 01000002 4096 4 8192 02000003\n"
    ++ codes "go a.q\n"
    ++ codes "wire 1\n"

-- what is written for it
abbrev pub written : List ℕ
written =
    opened
    ++ codes "ok\n"
    ++ codes "ok\n"
    ++ codes "sent 1\n"
    ++ codes "wire 0a00ffff000200018000006400000000000020000200000300000004deadbeef00000000\n"
