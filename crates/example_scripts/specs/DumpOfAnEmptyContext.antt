-- The dump of a context that holds nothing.
use Rattle.std.specs.Prelude.{ℕ, List, ◌++◌, codes}

-- the script
abbrev pub script : List ℕ
script =
    codes "device 1 10.0.0.1\n"
    ++ codes "context e 1\n"
    ++ codes "stop e\n"
    ++ codes "dump e\n"

-- what is written for it
abbrev pub written : List ℕ
written =
    codes "ok\n"
    ++ codes "ok\n"
    ++ codes "stopped\n"
    ++ codes "dump 20 4d494744554d5000000201650000000000000000\n"
