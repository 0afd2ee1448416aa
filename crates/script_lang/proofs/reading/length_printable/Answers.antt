use Rattle.std.proofs.Common.{◌≡◌, not, ℕ, get_or, length, sym, arith, ap, true, ◌∙◌}
use Rattle.std.proofs.lemmas.List.Sums.{position_or_len_is}
use Rattle.script_lang.specs.Lines.{is_printable}
use Rattle.script_lang.proofs.reading.length_printable.Goals as goal

pub returns-then-not-printable : goal.returns-then-not-printable
returns-then-not-printable c =
    let here : not (is_printable (get_or c.args.line.now c.loop-i.i 0)) ≡ true = ap not (sym c.printable.ensures ∙ c.if-not-printable.true) in
    sym (position_or_len_is (λ (b : ℕ). not (is_printable b)) c.args.line.now c.loop-i.i 0 (omega arith) c.loop-i.invariant (λ _. here))

pub returns : goal.returns
returns c =
    sym (position_or_len_is (λ (b : ℕ). not (is_printable b)) c.args.line.now (length c.args.line.now) 0 (omega arith) (λ k h. c.loop-i.invariant k (omega arith)) (λ h. absurd (omega arith)))
