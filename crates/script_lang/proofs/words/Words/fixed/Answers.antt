use Rattle.std.proofs.Common.{◌≡◌, not, Bool, true, false, refl, sym, ◌∙◌, bytes_eq}
use Rattle.script_lang.specs.Fields.{the_word}
use Rattle.script_lang.proofs.words.Words.fixed.Goals as goal

same : (b : Bool) → not b ≡ false → b ≡ true
same true h = refl
same false h = cc h

other : (b : Bool) → not b ≡ true → b ≡ false
other true h = cc h
other false h = refl

pub returns : goal.returns
unfolding the_word
returns c =
    let stands : bytes_eq c.in_ok-word.word.text.now c.args.text.now ≡ true = same _ (sym c.ne.ensures ∙ c.if-ne.false) in
    rw (c.in_ok-word.ensures.word, stands) refl

pub returns-then-ne : goal.returns-then-ne
unfolding the_word
returns-then-ne c =
    let wrong : bytes_eq c.in_ok-word.word.text.now c.args.text.now ≡ false = other _ (sym c.ne.ensures ∙ c.if-ne.true) in
    rw (c.in_ok-word.ensures.word, wrong, c.bad.ensures) refl
