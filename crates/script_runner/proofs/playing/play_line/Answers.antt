use Rattle.std.proofs.Common.{◌≡◌, Ok, ap, sym, ◌∙◌}
use Rattle.std.proofs.lemmas.Result.{on_err_weaker}
use Rattle.script_lang.specs.Lines.{reading_of}
use Rattle.script_runner.proofs.Prefixes.{on_ok_with}
use Rattle.script_runner.proofs.Played.{line_cut_off, line_played}
use Rattle.script_runner.proofs.playing.play_line.Goals as goal

pub answer-requires : goal.answer-requires
answer-requires g c =
    let here : reading_of c.args.line.now ≡ Ok c.replace-says.result = c.in-Ok.ensures.value ∙ ap Ok (sym c.replace-says.ensures.value) in
    c.lines_are_in_range.ensures.asked c.replace-says.result (c.lines_are_in_range.ensures.lawful c.args.line.now c.replace-says.result here)

pub returns-in-Ok-clause-played : goal.returns-in-Ok-clause-played
returns-in-Ok-clause-played g c held script n rest e p =
    let here : reading_of c.args.line.now ≡ Ok c.replace-says.result = c.in-Ok.ensures.value ∙ ap Ok (sym c.replace-says.ensures.value) in
    on_ok_with c.answer.result (line_played c.scripts_are_played_line_by_line.ensures.goes_on held _ _ script c.args.world.now n c.args.number c.args.line.now rest c.replace-says.result e here p (record { forgets = c.alike_worlds_are_answered_alike.ensures.kept_datagrams; line = c.alike_worlds_are_answered_alike.ensures.line }) c.scripts_are_played_line_by_line.ensures.forgets c.answer.new.world) c.answer.ensures.world c.answer.ensures.whole

pub returns-in-Ok-clause-part : goal.returns-in-Ok-clause-part
returns-in-Ok-clause-part g c held script n rest e p =
    let here : reading_of c.args.line.now ≡ Ok c.replace-says.result = c.in-Ok.ensures.value ∙ ap Ok (sym c.replace-says.ensures.value) in
    on_err_weaker c.answer.result (line_cut_off c.scripts_are_played_line_by_line.ensures.goes_on held _ _ script c.args.world.now n c.args.number c.args.line.now rest c.replace-says.result e here p) c.answer.ensures.part
