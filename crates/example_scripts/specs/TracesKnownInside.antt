-- The owner learns of bytes inside a message, and one acknowledgement tells two requests.
use Rattle.std.specs.Prelude.{ℕ, List, ◌++◌, codes}
use Rattle.example_scripts.specs.TracesOpening.{connected}

abbrev pub trace : List ℕ
trace =
    connected
    ++ codes "v write a.q 1 01000002 4096 600 8192 02000003\n"
    ++ codes "= ok\n"
    ++ codes "i run a.q 256\n"
    ++ codes "i run a.q 256\n"
    ++ codes "i expire a.q\n"
    ++ codes "i known a.q 512\n"
    ++ codes "i run a.q 88\n"
    ++ codes "i tell a.q\n"
    ++ codes "v read a.q 2 01000002 4096 300 8192 02000003\n"
    ++ codes "= ok\n"
    ++ codes "v add a.q 3 01000002 4400 8192 02000003 5\n"
    ++ codes "= ok\n"
    ++ codes "v write a.q 4 01000002 4096 4 8300 02000003\n"
    ++ codes "= ok\n"
    ++ codes "i turn a.q\n"
    ++ codes "i offer a.q 1 0 256\n"
    ++ codes "i offer a.q 1 256 44\n"
    ++ codes "i land a.q 0\n"
    ++ codes "i land a.q 1\n"
    ++ codes "i tell a.q\n"
    ++ codes "i atom a.q\n"
    ++ codes "i run a.q 4\n"
    ++ codes "i tell a.q\n"
    ++ codes "i tell a.q\n"
    ++ codes "v poll a.c 9\n"
    ++ codes "= wc 010001 1 write 0 600\n"
    ++ codes "= wc 010001 2 read 0 300\n"
    ++ codes "= wc 010001 3 add 0 8\n"
    ++ codes "= wc 010001 4 write 0 4\n"
    ++ codes "end\n"
