use Rattle.std.proofs.Common.{arith, map, ◌∙◌}
use Rattle.std.proofs.lemmas.Result.{on_err_weaker, on_ok_weaker}
use Rattle.script_lang.specs.Printed.{ended, line}
use Rattle.script_runner.proofs.Prefixes.{prefix_longer, on_err}
use Rattle.commands.proofs.Lines.{end_cut_off, space_cut_off, word_cut_off, word_written}
use Rattle.commands.proofs.writing.write_line.Goals as goal

pub returns-in_err-write_text-clause-part : goal.returns-in_err-write_text-clause-part
returns-in_err-write_text-clause-part g c = on_err c.from_residual.result (prefix_longer _ _ c.args.first.now (ended (map (λ w. w.now) c.args.words.now)) c.in_err-write_text.ensures.part)

pub returns-in_err-write_text-2-clause-part : goal.returns-in_err-write_text-2-clause-part
returns-in_err-write_text-2-clause-part g c = on_err c.from_residual-in_err-write_text-2.result (space_cut_off (g.K.Sink.held c.args.output.now) (g.K.Sink.held c.loop-word.output) (g.K.Sink.held c.write_text-in-loop-word.new.output) (line c.args.first.now (map (λ w. w.now) c.args.words.now)) c.args.words.now c.loop-word.word-index c.loop-word.invariant.written c.args.first c.loop-word-test.true c.in_err-write_text-2.ensures.part)

pub returns-in_err-write_text-3-clause-part : goal.returns-in_err-write_text-3-clause-part
returns-in_err-write_text-3-clause-part g c = on_err c.from_residual-in_err-write_text-3.result (word_cut_off (g.K.Sink.held c.args.output.now) (g.K.Sink.held c.loop-word.output) (g.K.Sink.held c.write_text-in-loop-word.new.output) (line c.args.first.now (map (λ w. w.now) c.args.words.now)) c.args.words.now c.loop-word.word-index c.loop-word.invariant.written _ c.loop-word-test.true (g.K.Sink.held c.write_text-in-loop-word-2.new.output) c.in_ok-write_text-2.ensures.whole c.in_err-write_text-3.ensures.part)

pub loop-word-preserved : goal.loop-word-preserved
loop-word-preserved g c = record {
  written = word_written (g.K.Sink.held c.args.output.now) (g.K.Sink.held c.loop-word.output) (g.K.Sink.held c.write_text-in-loop-word.new.output) (line c.args.first.now (map (λ w. w.now) c.args.words.now)) c.args.words.now c.loop-word.word-index c.loop-word.invariant.written _ c.loop-word-test.true (g.K.Sink.held c.write_text-in-loop-word-2.new.output) c.in_ok-write_text-2.ensures.whole c.in_ok-write_text-3.ensures.whole;
  faults = omega (arith, c.loop-word.invariant.faults, c.in_ok-write_text-2.ensures.faults_unchanged, c.in_ok-write_text-3.ensures.faults_unchanged);
  faults_monotone = omega (arith, c.loop-word.invariant.faults_monotone, c.write_text-in-loop-word.ensures.faults_monotone, c.write_text-in-loop-word-2.ensures.faults_monotone);
}

pub returns-clause-part : goal.returns-clause-part
returns-clause-part g c = on_err_weaker c.write_text-2.result (end_cut_off (g.K.Sink.held c.args.output.now) (g.K.Sink.held c.loop-word.output) (g.K.Sink.held c.write_text-2.new.output) (line c.args.first.now (map (λ w. w.now) c.args.words.now)) c.args.words.now c.loop-word.word-index c.loop-word.invariant.written c.loop-word-test.false) c.write_text-2.ensures.part

pub returns-clause-faults_unchanged : goal.returns-clause-faults_unchanged
returns-clause-faults_unchanged g c = on_ok_weaker c.write_text-2.result (λ e. e ∙ c.loop-word.invariant.faults) c.write_text-2.ensures.faults_unchanged
