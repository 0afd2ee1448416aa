use Rattle.std.proofs.Common.{◌<◌, ◌≡◌, ◌+◌, length, drop, sym, ◌∙◌, arith, length-drop}
use Rattle.script_lang.proofs.Splitting.{word_at, no_words_in}
use Rattle.script_lang.proofs.words.word_after.Goals as goal

pub returns-then-start-line-clause-end : goal.returns-then-start-line-clause-end
returns-then-start-line-clause-end c =
    let line = c.args.line.now in
    let start = c.past_spaces-start.result in
    let none : length (drop start line) ≡ 0 = omega (arith, length-drop start line) in
    sym c.past_spaces-start.ensures.words ∙ no_words_in (start + 1) (drop start line) none

pub returns-clause-word : goal.returns-clause-word
returns-clause-word c =
    let line = c.args.line.now in
    let start = c.past_spaces-start.result in
    let some : start < length line = omega arith in
    sym c.past_spaces-start.ensures.words
    ∙ word_at line start c.past_letters-end.result some (c.past_spaces-start.ensures.front some) c.past_letters-end.ensures.place
