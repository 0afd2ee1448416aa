-- A late answer of a husk pauses nobody.
use Rattle.std.specs.Prelude.{ℕ, List, ◌++◌, codes}
use Rattle.example_scripts.specs.ResumeAfterRestore as resumed

-- the script
abbrev pub script : List ℕ
script =
    resumed.script
    ++ codes "deliver 2\n"
    ++ codes "go a.q\n"
    ++ codes "deliver 5\n"
    ++ codes "deliver 6\n"
    ++ codes "poll a.c 4\n"
    ++ codes "load b.n 8192 4\n"

-- what is written for it
abbrev pub written : List ℕ
written =
    resumed.written
    ++ codes "took silent stale\n"
    ++ codes "sent 5\n"
    ++ codes "took ack sent 6\n"
    ++ codes "took acked\n"
    ++ codes "wc 010001 1 write 0 4\n"
    ++ codes "bytes deadbeef\n"
