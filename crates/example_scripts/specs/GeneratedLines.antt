-- Lines of each form that generated scripts have.
use Rattle.std.specs.Prelude.{ℕ, List, ◌++◌}
use Rattle.workload_gen.specs.Plan.{closing_lines, message_lines, move_lines, opening_lines}

-- eight connections, messages of each kind with each schedule, two moves, and the end
abbrev pub script : List ℕ
script =
    opening_lines 8
    ++ message_lines 8 1 0
    ++ message_lines 8 2 262217
    ++ message_lines 8 3 1076369618
    ++ message_lines 8 4 2173762011
    ++ message_lines 8 16 4294967239
    ++ message_lines 8 2000 4294967263
    ++ move_lines 1
    ++ move_lines 2
    ++ closing_lines
