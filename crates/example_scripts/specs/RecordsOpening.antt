-- How the scripts begin: what two contexts need for a connection between them.
use Rattle.std.specs.Prelude.{ℕ, List, ◌++◌, codes}

-- three devices, and two contexts, each with a domain
abbrev pub contexts : List ℕ
contexts =
    codes "device 1 10.0.0.1\n"
    ++ codes "device 2 10.0.0.2\n"
    ++ codes "device 3 10.0.0.3\n"
    ++ codes "context a 1\n"
    ++ codes "context b 2\n"
    ++ codes "domain a.p\n"
    ++ codes "domain b.p\n"

-- their completion queues and queue pairs
abbrev pub pairs : List ℕ
pairs =
    codes "cq a.c 16\n"
    ++ codes "cq b.c 16\n"
    ++ codes "qp a.q a.p a.c a.c 8 8\n"
    ++ codes "qp b.q b.p b.c b.c 8 8\n"
