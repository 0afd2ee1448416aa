-- What applications hear stands in a trace.
use Rattle.std.specs.Prelude.{◌≡◌, List, map}
use Rattle.protocol.specs.State.{empty_world}
use Rattle.trace_rules.specs.Recording.{Written, heard_from, spoken_in, traced_of, with_lines}

-- the verbs and answers of what is recorded of lines are exactly those that count as made, in order
abbrev pub AllIsHeard : Type 0
AllIsHeard = (ls : List Written) → spoken_in (traced_of ls) ≡ map with_lines (heard_from empty_world ls)
