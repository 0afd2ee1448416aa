-- Acknowledges of every kind: a sequence error that tells, one that a Read holds up, empty messages, a refusal.
use Rattle.std.specs.Prelude.{ℕ, List, ◌++◌, codes}
use Rattle.example_scripts.specs.TracesOpening.{connected}

-- its first 59 lines, up to the last line of an answer
abbrev pub opening : List ℕ
opening =
    connected
    ++ codes "v write a.q 1 01000002 4096 4 8192 02000003\n"
    ++ codes "= ok\n"
    ++ codes "v write a.q 2 01000002 4096 0 8192 02000003\n"
    ++ codes "= ok\n"
    ++ codes "v write a.q 3 01000002 4096 4 8192 02000003\n"
    ++ codes "= ok\n"
    ++ codes "i run a.q 4\n"
    ++ codes "i tell a.q\n"
    ++ codes "i run a.q 0\n"
    ++ codes "i run a.q 4\n"
    ++ codes "i tell a.q\n"
    ++ codes "i tell a.q\n"
    ++ codes "v read a.q 4 01000002 4096 0 8192 02000003\n"
    ++ codes "= ok\n"
    ++ codes "v write a.q 5 01000002 4096 4 8192 02000003\n"
    ++ codes "= ok\n"
    ++ codes "i turn a.q\n"
    ++ codes "i offer a.q 3 0 0\n"
    ++ codes "i run a.q 4\n"
    ++ codes "i tell a.q\n"
    ++ codes "i tell a.q\n"
    ++ codes "v send a.q 6 01000002 4096 0 imm 00000007\n"
    ++ codes "= ok\n"
    ++ codes "i dry a.q\n"
    ++ codes "i dry a.q\n"
    ++ codes "i wait a.q\n"
    ++ codes "i wait a.q\n"
    ++ codes "v recv b.q 7 00000000 0 0\n"
    ++ codes "= ok\n"
    ++ codes "i run a.q 0\n"
    ++ codes "i tell a.q\n"
    ++ codes "v poll a.c 9\n"
    ++ codes "= wc 010001 1 write 0 4\n"
    ++ codes "= wc 010001 2 write 0 0\n"
    ++ codes "= wc 010001 3 write 0 4\n"
    ++ codes "= wc 010001 4 read 0 0\n"
    ++ codes "= wc 010001 5 write 0 4\n"

-- the last line of that answer
abbrev pub last_line : List ℕ
last_line = codes "= wc 010001 6 send 0 0\n"

-- up to a step that comes after such an answer
abbrev pub between : List ℕ
between =
    codes "v poll b.c 9\n"
    ++ codes "= wc 020001 7 recv 0 0 imm 00000007\n"
    ++ codes "v write a.q 20 01000002 4096 4 8192 02000003\n"
    ++ codes "= ok\n"
    ++ codes "v read a.q 21 01000002 4096 4 8192 02000003\n"
    ++ codes "= ok\n"
    ++ codes "v write a.q 22 01000002 4096 4 8192 02000003\n"
    ++ codes "= ok\n"
    ++ codes "i run a.q 4\n"
    ++ codes "i turn a.q\n"
    ++ codes "i offer a.q 7 0 4\n"
    ++ codes "i run a.q 4\n"
    ++ codes "i tell a.q\n"
    ++ codes "i land a.q 1\n"
    ++ codes "i tell a.q\n"
    ++ codes "i tell a.q\n"
    ++ codes "v write a.q 8 01000002 4096 4 8192 02000003\n"
    ++ codes "= ok\n"
    ++ codes "v write a.q 9 01000002 4096 4 9999 02000003\n"
    ++ codes "= ok\n"

-- that step
abbrev pub later_step : List ℕ
later_step = codes "i run a.q 4\n"

-- what follows it
abbrev pub after : List ℕ
after =
    codes "i refuse a.q access\n"
    ++ codes "i tell a.q\n"
    ++ codes "i bounce a.q\n"
    ++ codes "v poll a.c 9\n"
    ++ codes "= wc 010001 20 write 0 4\n"
    ++ codes "= wc 010001 21 read 0 4\n"
    ++ codes "= wc 010001 22 write 0 4\n"
    ++ codes "= wc 010001 8 write 0 4\n"
    ++ codes "= wc 010001 9 write 10 0\n"
    ++ codes "end\n"

-- as it was recorded
abbrev pub trace : List ℕ
trace = opening ++ last_line ++ between ++ later_step ++ after

-- without the last line of the answer
abbrev pub with_a_line_less : List ℕ
with_a_line_less = opening ++ between ++ later_step ++ after

-- without the later step
abbrev pub with_a_later_step_less : List ℕ
with_a_later_step_less = opening ++ last_line ++ between ++ after
