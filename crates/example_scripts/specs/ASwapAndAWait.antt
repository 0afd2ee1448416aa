-- A compare and swap, and a send that waits for its timer.
use Rattle.std.specs.Prelude.{ℕ, List, ◌++◌, codes}
use Rattle.example_scripts.specs.Openings.{two_devices, usual_things, opened_on_two}

-- the script
abbrev pub script : List ℕ
script =
    two_devices ++ usual_things
    ++ codes "cas a.q 1 01000002 4096 8192 02000003 0 5\n"
    ++ codes "settle\n"
    ++ codes "load b.n 8192 8\n"
    ++ codes "poll a.c 4\n"
    ++ codes "rnr a.q\n"
    ++ codes "send a.q 2 01000002 4096 4 quiet\n"
    ++ codes "go a.q\n"
    ++ codes "deliver 3\n"
    ++ codes "deliver 4\n"
    ++ codes "rnr a.q\n"
    ++ codes "rnr a.q\n"
    ++ codes "settle\n"

-- what is written for it
abbrev pub written : List ℕ
written =
    opened_on_two
    ++ codes "ok\n"
    ++ codes "quiet 0\n"
    ++ codes "bytes 0000000000000005\n"
    ++ codes "wc 010001 1 cas 0 8\n"
    ++ codes "notwaiting\n"
    ++ codes "ok\n"
    ++ codes "sent 3\n"
    ++ codes "took notready sent 4\n"
    ++ codes "took waits\n"
    ++ codes "over\n"
    ++ codes "notwaiting\n"
    ++ codes "quiet 1\n"
    ++ codes "left a.q noreceive\n"
