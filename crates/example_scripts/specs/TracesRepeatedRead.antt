-- A Read that is asked for again inside is offered again.
use Rattle.std.specs.Prelude.{ℕ, List, ◌++◌, codes}
use Rattle.example_scripts.specs.TracesOpening.{connected}

abbrev pub trace : List ℕ
trace =
    connected
    ++ codes "v read a.q 1 01000002 4096 520 8192 02000003\n"
    ++ codes "= ok\n"
    ++ codes "i turn a.q\n"
    ++ codes "i offer a.q 0 0 256\n"
    ++ codes "i offer a.q 0 256 256\n"
    ++ codes "i offer a.q 0 512 8\n"
    ++ codes "i land a.q 0\n"
    ++ codes "i expire a.q\n"
    ++ codes "i offer a.q 0 256 256\n"
    ++ codes "i offer a.q 0 512 8\n"
    ++ codes "i offer a.q 0 0 256\n"
    ++ codes "i offer a.q 0 256 256\n"
    ++ codes "i offer a.q 0 512 8\n"
    ++ codes "i land a.q 1\n"
    ++ codes "i land a.q 2\n"
    ++ codes "i tell a.q\n"
    ++ codes "v poll a.c 9\n"
    ++ codes "= wc 010001 1 read 0 520\n"
    ++ codes "end\n"
