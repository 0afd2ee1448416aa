-- A context is stopped, restored and released, and what is refused meanwhile.
use Rattle.std.specs.Prelude.{ℕ, List, ◌++◌, codes}
use Rattle.example_scripts.specs.Openings.{usual_opening, opened}

-- the script
abbrev pub script : List ℕ
script =
    usual_opening
    ++ codes "stop b\n"
    ++ codes "stop a\n"
    ++ codes "load b.n 8192 1\n"
    ++ codes "restore b 2\n"
    ++ codes "restore b 3\n"
    ++ codes "restore b 3\n"
    ++ codes "restore a 3\n"
    ++ codes "release b 2\n"
    ++ codes "release b 2\n"

-- what is written for it
abbrev pub written : List ℕ
written =
    opened
    ++ codes "stopped\n"
    ++ codes "refused PeerMoving\n"
    ++ codes "refused Stopped\n"
    ++ codes "refused NumberTaken\n"
    ++ codes "ok\n"
    ++ codes "refused Spent\n"
    ++ codes "refused NoSuch\n"
    ++ codes "ok\n"
    ++ codes "refused NoSuch\n"
