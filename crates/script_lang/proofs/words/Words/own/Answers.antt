use Rattle.std.proofs.Common.{rules, ◌≡◌, Bool, true, false, Some, None, refl, if◌then◌else◌}
use Rattle.std.specs.Bool.{then_some}
use Rattle.script_lang.specs.Fields.{an_own}
use Rattle.script_lang.proofs.words.Words.own.Goals as goal

some_if : {A : Type 0} (b : Bool) (x : A) → then_some b x ≡ (if b then Some x else None)
some_if true x = search rules
some_if false x = search rules

pub returns : goal.returns
unfolding an_own
returns c = rw (c.in_ok-other.ensures, c.then_some.ensures, c.eq.ensures, some_if) refl
