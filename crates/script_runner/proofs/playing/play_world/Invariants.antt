use Rattle.std.proofs.Common.{◌≡◌, length}
use Rattle.script_runner.specs.Playing.{IsPlayedTo}
use Rattle.script_runner.proofs.playing.play_world.Given as goal

abbrev pub invariant-loop-line : goal.invariant-loop-line
invariant-loop-line g l = record {
  played : IsPlayedTo (g.K.Sink.held l.initial.output) (g.K.Sink.held l.output) l.input l.world l.number l.lines;
  faults_unchanged : g.K.Sink.faults l.output ≡ g.K.Sink.faults l.initial.output;
}

abbrev pub decreases-loop-line : goal.decreases-loop-line
decreases-loop-line g l = length l.lines
