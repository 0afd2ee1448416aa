-- A world has sixteen devices at most.
use Rattle.std.specs.Prelude.{ℕ, List, ◌++◌, codes}

-- the script
abbrev pub script : List ℕ
script =
    codes "device 1 10.0.0.1\n"
    ++ codes "device 2 10.0.0.2\n"
    ++ codes "device 3 10.0.0.3\n"
    ++ codes "device 4 10.0.0.4\n"
    ++ codes "device 5 10.0.0.5\n"
    ++ codes "device 6 10.0.0.6\n"
    ++ codes "device 7 10.0.0.7\n"
    ++ codes "device 8 10.0.0.8\n"
    ++ codes "device 9 10.0.0.9\n"
    ++ codes "device 10 10.0.0.10\n"
    ++ codes "device 11 10.0.0.11\n"
    ++ codes "device 12 10.0.0.12\n"
    ++ codes "device 13 10.0.0.13\n"
    ++ codes "device 14 10.0.0.14\n"
    ++ codes "device 15 10.0.0.15\n"
    ++ codes "device 16 10.0.0.16\n"
    ++ codes "device 17 10.0.0.17\n"

-- what is written for it
abbrev pub written : List ℕ
written =
    codes "ok\n"
    ++ codes "ok\n"
    ++ codes "ok\n"
    ++ codes "ok\n"
    ++ codes "ok\n"
    ++ codes "ok\n"
    ++ codes "ok\n"
    ++ codes "ok\n"
    ++ codes "ok\n"
    ++ codes "ok\n"
    ++ codes "ok\n"
    ++ codes "ok\n"
    ++ codes "ok\n"
    ++ codes "ok\n"
    ++ codes "ok\n"
    ++ codes "ok\n"
    ++ codes "refused TooMany\n"
