-- A restored end resumes its connection.
use Rattle.std.specs.Prelude.{ℕ, List, ◌++◌, codes}
use Rattle.example_scripts.specs.HuskAnswersAndPeerPauses as paused

-- the script
abbrev pub script : List ℕ
script =
    paused.script
    ++ codes "restore b 3\n"
    ++ codes "go b.q\n"
    ++ codes "wire 3\n"
    ++ codes "deliver 3\n"
    ++ codes "wire 4\n"
    ++ codes "deliver 4\n"

-- what is written for it
abbrev pub written : List ℕ
written =
    paused.written
    ++ codes "ok\n"
    ++ codes "sent 3\n"
    ++ codes "wire 1e00ffff0001000100000000000000010a00000312b7000000000000\n"
    ++ codes "took resumed sent 4\n"
    ++ codes "wire 1f00ffff0002000100000000000000010a00000312b7000000000000\n"
    ++ codes "took running\n"
