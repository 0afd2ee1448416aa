use Rattle.std.proofs.Common.{◌≡◌, ◌^◌, sym, ◌∙◌}
use Rattle.script_lang.specs.Texts.{digits_after}
use Rattle.script_lang.proofs.Digits.{digits_done, told_below}
use Rattle.script_lang.proofs.texts.digits_value.Goals as goal

pub returns : goal.returns
returns c =
    let all : c.loop-b.n ≡ digits_after 0 c.args.text.now =
    sym (digits_done c.loop-b.n c.args.text.now c.loop-b.b-index c.loop-b-test.false) ∙ c.loop-b.invariant.value in
    rw (← all) (sym (told_below c.loop-b.n (2 ^ 64) c.loop-b.invariant.fits))
