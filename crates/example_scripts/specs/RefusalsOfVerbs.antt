-- Verbs are refused, each for its first reason.
use Rattle.std.specs.Prelude.{ℕ, List, ◌++◌, codes}
use Rattle.example_scripts.specs.Openings.{usual_opening, opened}

-- the script
abbrev pub script : List ℕ
script =
    usual_opening
    ++ codes "write a.z 1 01000002 4096 4 8192 02000003\n"
    ++ codes "region a.m a.p 4096 64 l\n"
    ++ codes "write a.q 1 01000002 4096 1048577 8192 02000003\n"
    ++ codes "write a.q 1 01000002 4096 65 8192 02000003\n"
    ++ codes "recv a.q 7 01000002 4096 8\n"
    ++ codes "drop a.m\n"
    ++ codes "qp a.s a.p a.c a.c 1 1\n"
    ++ codes "write a.s 1 01000002 4096 4 8192 02000003\n"
    ++ codes "recv a.s 1 01000002 4096 8\n"
    ++ codes "recv a.s 1 01000002 4096 8\n"
    ++ codes "write a.q 1 01000002 4096 4 8192 02000003\n"
    ++ codes "write a.q 1 01000002 4096 4 8192 02000003\n"
    ++ codes "write a.q 1 01000002 4096 4 8192 02000003\n"
    ++ codes "write a.q 1 01000002 4096 4 8192 02000003\n"
    ++ codes "write a.q 1 01000002 4096 4 8192 02000003\n"
    ++ codes "write a.q 1 01000002 4096 4 8192 02000003\n"
    ++ codes "write a.q 1 01000002 4096 4 8192 02000003\n"
    ++ codes "write a.q 1 01000002 4096 4 8192 02000003\n"
    ++ codes "write a.q 1 01000002 4096 4 8192 02000003\n"
    ++ codes "region a.big a.p 0 16777216 l\n"
    ++ codes "region a.big2 a.p 0 16777216 l\n"

-- what is written for it
abbrev pub written : List ℕ
written =
    opened
    ++ codes "refused NoSuch\n"
    ++ codes "refused NumberTaken\n"
    ++ codes "refused TooLong\n"
    ++ codes "refused BadKey\n"
    ++ codes "ok\n"
    ++ codes "refused InUse\n"
    ++ codes "qp 010002\n"
    ++ codes "refused BadState\n"
    ++ codes "ok\n"
    ++ codes "refused RqFull\n"
    ++ codes "ok\n"
    ++ codes "ok\n"
    ++ codes "ok\n"
    ++ codes "ok\n"
    ++ codes "ok\n"
    ++ codes "ok\n"
    ++ codes "ok\n"
    ++ codes "ok\n"
    ++ codes "refused SqFull\n"
    ++ codes "region 01000004 01000005\n"
    ++ codes "refused NoPage\n"
