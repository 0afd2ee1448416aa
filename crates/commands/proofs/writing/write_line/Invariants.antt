use Rattle.std.proofs.Common.{◌≡◌, ◌≤◌, drop, map}
use Rattle.script_lang.specs.Printed.{ended, line}
use Rattle.commands.proofs.Lines.{IsWritten}
use Rattle.commands.proofs.writing.write_line.Given as goal

abbrev pub invariant-loop-word : goal.invariant-loop-word
invariant-loop-word g l = record {
  written : IsWritten (g.K.Sink.held l.fn.output) (g.K.Sink.held l.output) (line l.first (map (λ w. w.now) l.words)) (ended (map (λ w. w.now) (drop l.word-index l.words)));
  faults : g.K.Sink.faults l.output ≡ g.K.Sink.faults l.fn.output;
  faults_monotone : g.K.Sink.faults l.fn.output ≤ g.K.Sink.faults l.output;
}
