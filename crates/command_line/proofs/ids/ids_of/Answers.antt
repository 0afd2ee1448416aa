use Rattle.std.proofs.Common.{arith, ◌≡◌, ◌≤◌, ◌∙◌, List, Some, None, map, ap, refl, sym, slice_get}
use Rattle.std.specs.Prelude.{length, option_map}
use Rattle.std.specs.String.{string_bytes}
use Rattle.std.proofs.lemmas.List.{length-map}
use Rattle.std.proofs.lemmas.Option.{slice_get-map, slice_get_read}
use Rattle.clap.specs.Words.{Text}
use Rattle.script_lang.specs.Texts.{number_in}
use Rattle.command_line.specs.Ids.{told_ids}
use Rattle.command_line.proofs.IdLists.{few, reading_fails, reading_on}
use Rattle.command_line.proofs.ids.ids_of.Goals as goal

pub returns-in_err-id_of : goal.returns-in_err-id_of
returns-in_err-id_of c =
    let words : List Text = map string_bytes c.args.words.now in
    let short : length words ≤ 16 = omega (arith, length-map c.args.words.now string_bytes, c.if-words-gt-MOST_IDS.false) in
    let at : slice_get words c.loop-word.word-index ≡ Some (string_bytes c.word-item.result) = slice_get-map string_bytes c.args.words.now c.loop-word.word-index ∙ ap (option_map string_bytes) (slice_get_read c.args.words.now (length c.args.words.now) c.loop-word.word-index c.word-item.result refl (omega arith) c.word-item.is) in
    ap told_ids c.from_residual.ensures
    ∙ sym (few words None short (reading_fails words c.loop-word.word-index c.loop-word.ids.items (string_bytes c.word-item.result) c.loop-word.invariant at (sym c.in_err-id_of.was ∙ (c.id_of.ensures ∙ ap (number_in 1 255) c.deref.ensures))))

pub loop-word-preserved : goal.loop-word-preserved
loop-word-preserved c =
    let words : List Text = map string_bytes c.args.words.now in
    let at : slice_get words c.loop-word.word-index ≡ Some (string_bytes c.word-item.result) = slice_get-map string_bytes c.args.words.now c.loop-word.word-index ∙ ap (option_map string_bytes) (slice_get_read c.args.words.now (length c.args.words.now) c.loop-word.word-index c.word-item.result refl (omega arith) c.word-item.is) in
    reading_on words c.loop-word.word-index c.loop-word.ids.items c.push.new.self.items (string_bytes c.word-item.result) c.in_ok-id_of.field-0 c.loop-word.invariant at (sym c.in_ok-id_of.was ∙ (c.id_of.ensures ∙ ap (number_in 1 255) c.deref.ensures)) c.push.ensures.items
