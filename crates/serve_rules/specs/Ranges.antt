-- Lines whose numbers are in their ranges.
use Rattle.std.specs.Prelude.{ℕ, ◌≤◌}
use Rattle.script_lang.specs.Ranges.{IsLawfulNodeLine}
use Rattle.serve_rules.specs.declared.lines.ServeLine.{ServeLine}
use Rattle.serve_rules.specs.declared.lines.ServeLine.TheVariants as line

abbrev pub IsLawfulServeLine : ServeLine → Type 0
IsLawfulServeLine (line.Node l) = IsLawfulNodeLine l
IsLawfulServeLine (line.Wait time) = time ≤ 3600000
IsLawfulServeLine (line.Until end goal limit) = limit ≤ 3600000
IsLawfulServeLine other = Unit {0}
