-- The reply to an addition is lost, its owner moves, and the addition acts once.
use Rattle.std.specs.Prelude.{ℕ, List, ◌++◌, codes}
use Rattle.example_scripts.specs.Openings.{usual_opening, opened}
use Rattle.example_scripts.specs.LostAtomicReply.{lost, lost_written, looks, shown}

-- the script
abbrev pub script : List ℕ
script =
    usual_opening
    ++ lost
    ++ codes "stop b\n"
    ++ codes "restore b 3\n"
    ++ codes "expire a.q\n"
    ++ codes "go a.q\n"
    ++ codes "deliver 3\n"
    ++ codes "deliver 4\n"
    ++ codes "go b.q\n"
    ++ codes "deliver 5\n"
    ++ codes "deliver 6\n"
    ++ codes "go a.q\n"
    ++ codes "deliver 7\n"
    ++ codes "deliver 8\n"
    ++ looks

-- what is written for it
abbrev pub written : List ℕ
written =
    opened
    ++ lost_written
    ++ codes "stopped\n"
    ++ codes "ok\n"
    ++ codes "expired 1\n"
    ++ codes "sent 3\n"
    ++ codes "took stopped sent 4\n"
    ++ codes "took paused\n"
    ++ codes "sent 5\n"
    ++ codes "took resumed sent 6\n"
    ++ codes "took running\n"
    ++ codes "sent 7\n"
    ++ codes "took old sent 8\n"
    ++ codes "took landed\n"
    ++ shown
