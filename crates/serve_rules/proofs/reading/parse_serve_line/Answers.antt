use Rattle.std.proofs.Common.{◌≡◌, ◌+◌, ◌∷◌, List, length, sym, ap, ◌∙◌}
use Rattle.script_lang.specs.Words.{Word, Input, words_from}
use Rattle.serve_rules.specs.Reading.{serve_reading_of}
use Rattle.serve_rules.proofs.reading.parse_serve_line.Goals as goal

pub returns-in-Some-clause-value : goal.returns-in-Some-clause-value
unfolding serve_reading_of
returns-in-Some-clause-value c =
    let words : words_from 1 c.args.line.now ≡ record { column = c.in-Some.first.column; text = c.in-Some.first.text.now } ∷ c.next_word.new.self.words = ap (λ (i : Input). i.words) (sym c.new-words.ensures) ∙ c.in-Some.ensures.word in
    let past : length c.args.line.now + 1 ≡ c.next_word.new.self.past = ap (λ (i : Input). i.past) (sym c.new-words.ensures) ∙ sym c.next_word.ensures.past in
    rw (c.in_ok-check_bytes.ensures.good, words, past) c.read_from.ensures.value
