-- How most traces begin: what two contexts need for a connection between them.
use Rattle.std.specs.Prelude.{ℕ, List, ◌++◌, codes}

-- two contexts, each with a domain
abbrev pub contexts : List ℕ
contexts =
    codes "v context a made\n"
    ++ codes "= ok\n"
    ++ codes "v context b made\n"
    ++ codes "= ok\n"
    ++ codes "v domain a.p\n"
    ++ codes "= ok\n"
    ++ codes "v domain b.p\n"
    ++ codes "= ok\n"

-- their completion queues and queue pairs
abbrev pub pairs : List ℕ
pairs =
    codes "v cq a.c 16\n"
    ++ codes "= ok\n"
    ++ codes "v cq b.c 16\n"
    ++ codes "= ok\n"
    ++ codes "v qp a.q a.p a.c a.c 8 8\n"
    ++ codes "= qp 010001\n"
    ++ codes "v qp b.q b.p b.c b.c 8 8\n"
    ++ codes "= qp 020001\n"

-- all of it, with regions of 600 bytes, up to the connection
abbrev pub connected : List ℕ
connected =
    contexts
    ++ codes "v region a.m a.p 4096 600 lwra\n"
    ++ codes "= region 01000002 01000003\n"
    ++ codes "v region b.n b.p 8192 600 lwra\n"
    ++ codes "= region 02000002 02000003\n"
    ++ pairs
    ++ codes "v connect a.q b.q mtu 256 psn 100 200 retry 7 rnr 7 reads 4\n"
    ++ codes "= ok\n"
