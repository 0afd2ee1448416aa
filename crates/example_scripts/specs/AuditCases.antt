-- Texts beside what is found of them.
use Rattle.std.specs.Prelude.{ℕ, ◌≡◌, List, map, Result}
use Rattle.script_lang.specs.declared.lines.Offence.{Offence}
use Rattle.run_traces.specs.declared.trace_audit.verdicts.Verdict.{Verdict}
use Rattle.run_traces.specs.Evaluate.{audited}

-- an audit finds of each trace what stands beside it
abbrev pub AreAudited : List (List ℕ × Result Verdict (ℕ × Offence)) → Type 0
AreAudited cases = map (λ c. audited c.0) cases ≡ map (λ c. c.1) cases
