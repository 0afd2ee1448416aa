use Rattle.std.proofs.Common.{◌≡◌, not, ℕ, ◌<◌, get_or, false}
use Rattle.script_lang.specs.Lines.{is_printable}
use Rattle.script_lang.proofs.reading.length_printable.Given as goal

abbrev pub invariant-loop-i : goal.invariant-loop-i
invariant-loop-i l = (k : ℕ) → k < l.i → not (is_printable (get_or l.line k 0)) ≡ false
