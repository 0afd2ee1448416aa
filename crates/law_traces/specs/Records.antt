-- The record of a script is a run of the packetless machine.
use Rattle.std.specs.Prelude.{ℕ, ◌≡◌, List, Ok}
use Rattle.run_traces.specs.declared.trace_audit.verdicts.Verdict.TheVariants.{Legal}
use Rattle.run_traces.specs.Verdicts.{inner_in, verbs_in, verdict_of}
use Rattle.trace_rules.specs.Recording.{Written, recorded_of, traced_of}

-- whatever script is recorded, an audit finds the recorded steps legal, and counts them
abbrev pub RecordsAreLegal : Type 0
RecordsAreLegal = (script : List ℕ) (ls : List Written) → recorded_of script ≡ Ok ls → verdict_of (traced_of ls) ≡ Legal (verbs_in (traced_of ls)) (inner_in (traced_of ls))
