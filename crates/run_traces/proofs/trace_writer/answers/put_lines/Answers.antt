use Rattle.std.proofs.Common.{◌≡◌, ◌++◌, ◌∙◌, sym, ap}
use Rattle.script_lang.specs.Scripts.{ended_lines}
use Rattle.run_traces.specs.Written.{answer_text}
use Rattle.law_script_words.proofs.Lines.{lines_of_cut}
use Rattle.run_traces.proofs.Writing.{line_put, lines_end}
use Rattle.run_traces.proofs.trace_writer.answers.put_lines.Goals as goal

pub loop-line-preserved : goal.loop-line-preserved
loop-line-preserved c =
    line_put c.loop-line.out.items c.put.new.out.items c.put-in-Some.new.out.items c.put-in-Some-2.new.out.items c.in-Some.line.now (ended_lines c.in-Some.behind.now) c.in_ok-put.ensures c.in_ok-put-2.ensures c.in_ok-put-3.ensures
    ∙ (ap (λ z. c.loop-line.out.items ++ answer_text z) (sym (lines_of_cut c.loop-line.rest.now c.in-Some.line.now c.in-Some.behind.now c.in-Some.ensures.cut)) ∙ c.loop-line.invariant)

pub returns : goal.returns
returns c = lines_end c.loop-line.out.items c.loop-line.rest.now (c.args.out.now.items ++ answer_text (ended_lines c.args.text.now)) c.in_default.ensures.uncut c.loop-line.invariant
