use Rattle.std.proofs.Common.{◌≡◌, ℕ, ◌+◌, ◌*◌, ◌≤◌, ◌<◌, ◌&&◌, Bool, true, List, length, get_or, take, arith, refl, sym, ap, ap₂, ◌∙◌}
use Rattle.std.specs.List.{list_all}
use Rattle.std.proofs.lemmas.List.{length-take, take-take}
use Rattle.std.proofs.lemmas.List.Folds.{list_all_more}
use Rattle.script_lang.specs.Texts.{is_digit, digits_after}
use Rattle.script_lang.proofs.Digits.{digit_fits, digit_more, room_for_digit}
use Rattle.script_lang.proofs.words.digits_front.Goals as goal

both : (a b : Bool) → a ≡ true → b ≡ true → (a && b) ≡ true
both a b h k = rw (h, k) refl

-- what is read of the first bytes is read of all
of_all : (most count : ℕ) (text : List ℕ) → count ≤ length (take most text) → take count (take most text) ≡ take count text
of_all most count text h = take-take count most text (omega (arith, length-take most text))

pub overflow_mul-n : goal.overflow_mul-n
overflow_mul-n c =
    let few : c.loop-count.count < 19 = omega (arith, c.min.ensures, length-take c.min.result c.args.text.now) in
    omega (arith, room_for_digit c.loop-count.n c.loop-count.count c.loop-count.invariant.small few)

pub overflow_add-n : goal.overflow_add-n
overflow_add-n c =
    let few : c.loop-count.count < 19 = omega (arith, c.min.ensures, length-take c.min.result c.args.text.now) in
    omega (arith, room_for_digit c.loop-count.n c.loop-count.count c.loop-count.invariant.small few, c.from.ensures, c.if-is_ascii_digit.ensures.cases)

pub loop-count-preserved : goal.loop-count-preserved
loop-count-preserved c =
    let text : List ℕ = take c.min.result c.args.text.now in
    let k : ℕ = c.loop-count.count in
    let digit : is_digit (get_or text k 0) ≡ true = sym c.if-is_ascii_digit.ensures.value in
    record {
      small = digit_fits c.loop-count.n k c.from.result c.loop-count.invariant.small (omega (arith, c.from.ensures, c.if-is_ascii_digit.ensures.cases));
      digits = list_all_more is_digit text k 0 c.loop-count-test.true ∙ both _ _ c.loop-count.invariant.digits digit;
      value = ap₂ (λ (m d : ℕ). m * 10 + d) c.loop-count.invariant.value c.from.ensures ∙ sym (digit_more 0 text k c.loop-count-test.true);
      within = omega (arith, c.loop-count-test.true);
    }

pub returns-after-loop-count-clause-digits : goal.returns-after-loop-count-clause-digits
returns-after-loop-count-clause-digits c = ap (list_all is_digit) (sym (of_all c.min.result c.loop-count.count c.args.text.now c.loop-count.invariant.within)) ∙ c.loop-count.invariant.digits

pub returns-else-is_ascii_digit-clause-digits : goal.returns-else-is_ascii_digit-clause-digits
returns-else-is_ascii_digit-clause-digits c = ap (list_all is_digit) (sym (of_all c.min.result c.loop-count.count c.args.text.now c.loop-count.invariant.within)) ∙ c.loop-count.invariant.digits

pub returns-after-loop-count-clause-value : goal.returns-after-loop-count-clause-value
returns-after-loop-count-clause-value c = c.loop-count.invariant.value ∙ ap (digits_after 0) (of_all c.min.result c.loop-count.count c.args.text.now c.loop-count.invariant.within)

pub returns-else-is_ascii_digit-clause-value : goal.returns-else-is_ascii_digit-clause-value
returns-else-is_ascii_digit-clause-value c = c.loop-count.invariant.value ∙ ap (digits_after 0) (of_all c.min.result c.loop-count.count c.args.text.now c.loop-count.invariant.within)

pub returns-after-loop-count-clause-within : goal.returns-after-loop-count-clause-within
returns-after-loop-count-clause-within c = omega (arith, c.loop-count.invariant.within, length-take c.min.result c.args.text.now)

pub returns-else-is_ascii_digit-clause-within : goal.returns-else-is_ascii_digit-clause-within
returns-else-is_ascii_digit-clause-within c = omega (arith, c.loop-count.invariant.within, length-take c.min.result c.args.text.now)
