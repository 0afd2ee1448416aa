use Rattle.std.proofs.Common.{◌≡◌, ◌+◌, ◌∷◌, List, length, subst, sym, ap, ◌∙◌}
use Rattle.script_lang.specs.declared.forms.Form.TheVariants as form_is
use Rattle.script_lang.specs.declared.forms.VerbForm.TheVariants as verb_is
use Rattle.script_lang.specs.Lines.{Begins, form_of}
use Rattle.script_lang.specs.Words.{Word, Input, words_from}
use Rattle.script_lang.proofs.reading.read_words.Goals as goal

pub returns-clause-memory : goal.returns-clause-memory
returns-clause-memory c = λ h.
    let store = c.read_from.ensures.memory h in
    let words : words_from 1 c.args.line.now ≡ record { column = c.in-Some.first.column; text = c.in-Some.first.text.now } ∷ c.next_word.new.self.words = ap (λ (i : Input). i.words) (sym c.new-words.ensures) ∙ c.in-Some.ensures.word in
    let P : List Word → Type 0 = λ ws. Begins form_of (form_is.Verb verb_is.Store) ws in
    subst P (sym words) store

pub returns-clause-value : goal.returns-clause-value
returns-clause-value c =
    let words : words_from 1 c.args.line.now ≡ record { column = c.in-Some.first.column; text = c.in-Some.first.text.now } ∷ c.next_word.new.self.words = ap (λ (i : Input). i.words) (sym c.new-words.ensures) ∙ c.in-Some.ensures.word in
    let past : length c.args.line.now + 1 ≡ c.next_word.new.self.past = ap (λ (i : Input). i.past) (sym c.new-words.ensures) ∙ sym c.next_word.ensures.past in
    rw (words, past) c.read_from.ensures.value
