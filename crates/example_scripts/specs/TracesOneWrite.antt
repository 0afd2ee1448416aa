-- The trace of one write, and what is left of it where a line is changed or left out.
use Rattle.std.specs.Prelude.{ℕ, List, ◌++◌, codes}
use Rattle.example_scripts.specs.TracesOpening.{contexts, pairs}

-- its first 26 lines: eleven verbs that make two contexts and connect them, a store and a write
abbrev pub opening : List ℕ
opening =
    contexts
    ++ codes "v region a.m a.p 4096 64 lwra\n"
    ++ codes "= region 01000002 01000003\n"
    ++ codes "v region b.n b.p 8192 64 lwra\n"
    ++ codes "= region 02000002 02000003\n"
    ++ pairs
    ++ codes "v connect a.q b.q mtu 256 psn 100 200 retry 7 rnr 7 reads 4\n"
    ++ codes "= ok\n"
    ++ codes "v store a.m 4096 deadbeef\n"
    ++ codes "= ok\n"
    ++ codes "v write a.q 1 01000002 4096 4 8192 02000003\n"
    ++ codes "= ok\n"

-- the line of the step that puts the bytes in place
abbrev pub run_line : List ℕ
run_line = codes "i run a.q 4\n"

-- the lines behind it: the owner is told, two polls, and what is loaded
abbrev pub polls : List ℕ
polls =
    codes "i tell a.q\n"
    ++ codes "v poll a.c 4\n"
    ++ codes "= wc 010001 1 write 0 4\n"
    ++ codes "v poll a.c 4\n"
    ++ codes "= none\n"
    ++ codes "v load b.n 8192 4\n"

-- the answer to the load
abbrev pub loaded : List ℕ
loaded = codes "= bytes deadbeef\n"

-- as it was recorded
abbrev pub trace : List ℕ
trace = opening ++ run_line ++ polls ++ loaded ++ codes "end\n"

-- without the run, which is line 27
abbrev pub without_the_run : List ℕ
without_the_run = opening ++ polls ++ loaded ++ codes "end\n"

-- with another answer on line 34
abbrev pub with_a_wrong_load : List ℕ
with_a_wrong_load = opening ++ run_line ++ polls ++ codes "= bytes deadbeee\n" ++ codes "end\n"

-- without its last line
abbrev pub without_the_end : List ℕ
without_the_end = opening ++ run_line ++ polls ++ loaded

-- with the run at the other end of the connection, whose owner posted nothing
abbrev pub with_a_run_of_the_peer : List ℕ
with_a_run_of_the_peer = opening ++ codes "i run b.q 4\n" ++ polls ++ loaded ++ codes "end\n"
