use Rattle.std.proofs.Common.{◌≡◌, ◌≤◌, true, length, take, get_or, subst, arith, length-drop}
use Rattle.std.specs.List.{list_all}
use Rattle.script_lang.specs.Texts.{is_digit, digits_after}
use Rattle.script_lang.proofs.Nexts.{number_next, whole_tail}
use Rattle.script_lang.proofs.words.number_after.Goals as goal
use Rattle.script_lang.proofs.words.number_after.Goals.{else-count-gt1-via-then-count-gt1+else-line-start-eq48, else-count-gt1-via-else-count-gt1}

-- a zero stands alone
lone : (c : goal.Joined-else-count-gt1) → get_or c.args.line.now c.past_spaces-start.result 0 ≡ 48 → c.digits_front-n.result.1 ≤ 1
lone c e = elim c.else-count-gt1.branch [
  | else-count-gt1-via-then-count-gt1+else-line-start-eq48 w ↦ absurd (w.if-line-start-eq48.false e)
  | else-count-gt1-via-else-count-gt1 w ↦ omega (arith, w.if-count-gt1.false)
]

pub returns-clause-number : goal.returns-clause-number
returns-clause-number c =
    let tail = whole_tail c.args.line.now c.past_spaces-start.result in
    number_next c.args.line.now c.args.at c.past_spaces-start.result c.digits_front-n.result.1 c.digits_front-n.result.0
    c.past_spaces-start.ensures.words c.past_spaces-start.ensures.front (omega (arith, c.if-count-eq0.false))
    (subst (λ rest. c.digits_front-n.result.1 ≤ length rest) tail c.digits_front-n.ensures.within)
    (subst (λ rest. list_all is_digit (take c.digits_front-n.result.1 rest) ≡ true) tail c.digits_front-n.ensures.digits)
    (subst (λ rest. c.digits_front-n.result.0 ≡ digits_after 0 (take c.digits_front-n.result.1 rest)) tail c.digits_front-n.ensures.value)
    c.digits_front-n.ensures.fits
    (lone c) (λ h. c.ends_at.ensures c.if-not-ends_at.false h)

pub returns-clause-within : goal.returns-clause-within
returns-clause-within c = omega (arith, c.digits_front-n.ensures.within, c.past_spaces-start.ensures.within, length-drop c.past_spaces-start.result c.args.line.now)
