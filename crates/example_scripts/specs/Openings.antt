-- How most of the scripts begin: two contexts with a region, a queue and a queue pair each, connected to one another, and a third
-- device that a context may move to.
use Rattle.std.specs.Prelude.{ℕ, List, ◌++◌, codes}

-- the devices of both contexts
abbrev pub two_devices : List ℕ
two_devices =
    codes "device 1 10.0.0.1\n"
    ++ codes "device 2 10.0.0.2\n"

-- the contexts and what they hold: regions of this length, and for a queue of this many entries
abbrev pub things : List ℕ → List ℕ → List ℕ
things length entries =
    codes "context a 1\n"
    ++ codes "context b 2\n"
    ++ codes "domain a.p\n"
    ++ codes "domain b.p\n"
    ++ codes "region a.m a.p 4096 " ++ length ++ codes " lwra\n"
    ++ codes "region b.n b.p 8192 " ++ length ++ codes " lwra\n"
    ++ codes "cq a.c " ++ entries ++ codes "\n"
    ++ codes "cq b.c 16\n"
    ++ codes "qp a.q a.p a.c a.c 8 8\n"
    ++ codes "qp b.q b.p b.c b.c 8 8\n"

-- the connection, under these first packet numbers and limits
abbrev pub connected : List ℕ → List ℕ
connected terms = codes "connect a.q b.q mtu 256 " ++ terms ++ codes " reads 4\n"

-- all of it, with a third device
abbrev pub opening : List ℕ → List ℕ → List ℕ → List ℕ
opening length entries terms = two_devices ++ codes "device 3 10.0.0.3\n" ++ things length entries ++ connected terms

-- what most scripts have after their devices
abbrev pub usual_things : List ℕ
usual_things = things (codes "64") (codes "16") ++ connected (codes "psn 100 200 retry 7 rnr 7")

-- .. and with them
abbrev pub usual_opening : List ℕ
usual_opening = two_devices ++ codes "device 3 10.0.0.3\n" ++ usual_things

-- what is answered to an opening on two devices
abbrev pub opened_on_two : List ℕ
opened_on_two =
    codes "ok\nok\nok\nok\nok\nok\n"
    ++ codes "region 01000002 01000003\n"
    ++ codes "region 02000002 02000003\n"
    ++ codes "ok\nok\n"
    ++ codes "qp 010001\n"
    ++ codes "qp 020001\n"
    ++ codes "ok\n"

-- .. and on three
abbrev pub opened : List ℕ
opened = codes "ok\n" ++ opened_on_two
