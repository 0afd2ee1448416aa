use Rattle.std.proofs.Common.{◌≡◌, ◌==◌, ℕ, get_or, length, sym, arith, true}
use Rattle.std.proofs.lemmas.Bool.{eq-eqb}
use Rattle.std.proofs.lemmas.List.Sums.{position_or_len_is}
use Rattle.script_lang.proofs.texts.length_before.Goals as goal

pub returns-then-b-end-clause-place : goal.returns-then-b-end-clause-place
returns-then-b-end-clause-place c =
    let here : (get_or c.args.bytes.now c.loop-i.i 0 == c.args.end) ≡ true = eq-eqb _ _ c.if-b-end.true in
    sym (position_or_len_is (λ (b : ℕ). b == c.args.end) c.args.bytes.now c.loop-i.i 0 (omega arith) c.loop-i.invariant (λ _. here))

pub returns-clause-place : goal.returns-clause-place
returns-clause-place c =
    sym (position_or_len_is (λ (b : ℕ). b == c.args.end) c.args.bytes.now (length c.args.bytes.now) 0 (omega arith) (λ k h. c.loop-i.invariant k (omega arith)) (λ h. absurd (omega arith)))
