-- Where all lines are good, none is bad, and no run stops at one.
use Rattle.std.proofs.Common.{◌≡◌, ℕ, ◌+◌, List, [], ◌∷◌, Result, Ok, Err, Some, None, refl, sym, subst, ◌∙◌}
use Rattle.script_lang.specs.declared.lines.Line.{Line}
use Rattle.script_lang.specs.declared.lines.Offence.{Offence}
use Rattle.script_lang.specs.Lines.{reading_of}
use Rattle.script_lang.specs.Scripts.{lines_of}
use Rattle.workload_gen.specs.Plan.{plan}
use Rattle.workload_gen.specs.declared.plan.Mix.{Mix}
use Rattle.program_rules.specs.Commands.{Bulk}
use Rattle.program_rules.specs.Headline.{IsStopped, IsStoppedBy, IsStoppedInBulk}
use Rattle.program_rules.specs.Runs.{Run, command}
use Rattle.law_headline.specs.Script.{BadLine, Script, bad_line, begins_with, script_from}
use Rattle.law_scripts.proofs.Cutting.{AreGood, IsGood}
use Rattle.program_rules.specs.Mixes.{IsMix}
use Rattle.law_scripts.proofs.Commanded.{command_in_range}
use Rattle.law_scripts.proofs.Spelled.{AreReadBack}
use Rattle.law_scripts.proofs.Whole.{lines_good}

begun : (r : Result Line Offence) (number : ℕ) (s : Script) → IsGood r → s.bad ≡ None → (begins_with r number s).bad ≡ None
begun (Ok l) number s good rest = rest
begun (Err e) number s good rest = absurd good

none_bad : (number : ℕ) (lines : List (List ℕ)) → AreGood lines → (script_from number lines).bad ≡ None
none_bad number [] good = refl
none_bad number (bs ∷ more) good = begun (reading_of bs) number (script_from (number + 1) more) good.0 (none_bad (number + 1) more good.1)

-- no line of a generated script is bad
pub plan_none_bad : AreReadBack → (seed : ℕ) (mix : Mix) → IsMix mix → bad_line (plan seed mix) ≡ None
plan_none_bad law seed mix is = none_bad 1 (lines_of (plan seed mix)) (lines_good law seed mix is)

not_both : (bad : BadLine) (text : List ℕ) → bad_line text ≡ None → bad_line text ≡ Some bad → ⊥
not_both bad text none some = let no : None ≡ Some bad = sym none ∙ some in cc no

-- no run of one stops
pub none_stopped : AreReadBack → (r : Run) (seed : ℕ) (mix : Mix) → IsMix mix → IsStoppedInBulk r seed mix → ⊥
none_stopped law r seed mix is stopped = not_both stopped.bad (plan seed mix) (plan_none_bad law seed mix is) stopped.first

-- nor one whose words ask for one
pub command_not_stopped : AreReadBack → (r : Run) (seed : ℕ) (mix : Mix) → command r ≡ Some (Bulk seed mix) → IsStopped r → ⊥
command_not_stopped law r seed mix asks stopped =
    none_stopped law r seed mix (command_in_range r.words seed mix asks) (subst (IsStoppedBy r) asks stopped)
