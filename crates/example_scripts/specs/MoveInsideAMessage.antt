-- A context moves while a message arrives.
use Rattle.std.specs.Prelude.{ℕ, List, ◌++◌, codes}
use Rattle.example_scripts.specs.Openings.{opening, opened}

-- the script
abbrev pub script : List ℕ
script =
    opening (codes "1024") (codes "16") (codes "psn 100 200 retry 7 rnr 7")
    ++ codes "write a.q 1 01000002 4096 600 8192 02000003\n"
    ++ codes "go a.q\n"
    ++ codes "go a.q\n"
    ++ codes "go a.q\n"
    ++ codes "deliver 1\n"
    ++ codes "stop b\n"
    ++ codes "deliver 2\n"
    ++ codes "deliver 4\n"
    ++ codes "restore b 3\n"
    ++ codes "go b.q\n"
    ++ codes "deliver 5\n"
    ++ codes "deliver 6\n"
    ++ codes "go a.q\n"
    ++ codes "deliver 7\n"
    ++ codes "deliver 8\n"
    ++ codes "go a.q\n"
    ++ codes "deliver 9\n"
    ++ codes "go a.q\n"
    ++ codes "deliver 10\n"
    ++ codes "deliver 11\n"
    ++ codes "poll a.c 4\n"

-- what is written for it
abbrev pub written : List ℕ
written =
    opened
    ++ codes "ok\n"
    ++ codes "sent 1\n"
    ++ codes "sent 2\n"
    ++ codes "sent 3\n"
    ++ codes "took acted\n"
    ++ codes "stopped\n"
    ++ codes "took stopped sent 4\n"
    ++ codes "took paused\n"
    ++ codes "ok\n"
    ++ codes "sent 5\n"
    ++ codes "took resumed sent 6\n"
    ++ codes "took running\n"
    ++ codes "sent 7\n"
    ++ codes "took dupack sent 8\n"
    ++ codes "took acked\n"
    ++ codes "sent 9\n"
    ++ codes "took acted\n"
    ++ codes "sent 10\n"
    ++ codes "took ack sent 11\n"
    ++ codes "took acked\n"
    ++ codes "wc 010001 1 write 0 600\n"
