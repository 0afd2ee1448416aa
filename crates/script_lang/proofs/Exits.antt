-- What a reader gives that ends at an error of its part.
use Rattle.std.proofs.Common.{◌≡◌, Result, Ok, Err, refl, sym, ap, ◌∙◌}
use Rattle.std.specs.Result.{IsErr, IsErrAnd}
use Rattle.script_lang.specs.declared.lines.LineFault.{LineFault}
use Rattle.script_lang.specs.declared.lines.LineFault.TheVariants.{Bad, OutOfMemory}
use Rattle.script_lang.specs.declared.lines.Offence.{Offence}
use Rattle.script_lang.specs.Lines.{Says, said}
use Rattle.script_lang.specs.Words.{Gives, GivesOr, GivesThen, Input, Read, Reads, then_read}

pub gives_err : {A : Type 0} (r : Result A Offence) (e : Offence) (i : Input) (read : Read A) → IsErr r × IsErrAnd r (λ x. x ≡ e) → read ≡ Err e → Gives r i read
gives_err (Ok x) e i read h k = cc h.0
gives_err (Err x) e i read h k = k ∙ ap Err (sym h.1)

pub gives_front : {A B : Type 0} (r : Result A Offence) (i : Input) (read : Read A) (more : A → Reads B) → Gives r i read → GivesThen r i more (then_read read more)
gives_front (Ok x) i read more h = rw h refl
gives_front (Err e) i read more h = rw h refl

-- .. where memory may run out
pub gives_or_then : {A B : Type 0} (f : LineFault) (i : Input) (read : Read A) (more : A → Reads B) → GivesOr {A = A} (Err f) i read → GivesOr {A = B} (Err f) i (then_read read more)
gives_or_then (Bad column why) i read more h = rw h refl
gives_or_then OutOfMemory i read more h = tt

pub says_said : {L : Type 0} (f : LineFault) (i : Input) (read : Read L) → GivesOr {A = L} (Err f) i read → Says {L = L} (Err f) (said read)
says_said (Bad column why) i read h = rw h refl
says_said OutOfMemory i read h = tt
