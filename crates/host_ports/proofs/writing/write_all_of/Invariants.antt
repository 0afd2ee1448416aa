use Rattle.std.proofs.Common.{◌≡◌, ◌+◌, ◌-◌, ◌≤◌, length, take}
use Rattle.host_ports.specs.Streams.{Puts}
use Rattle.host_ports.proofs.writing.write_all_of.Given as goal

abbrev pub invariant-loop-done : goal.invariant-loop-done
invariant-loop-done g l = record {
  put : Puts (g.K.Sink.held l.initial.sink) (g.K.Sink.held l.sink) (take l.done l.bytes);
  within : l.done ≤ length l.bytes;
  faults_unchanged : g.K.Sink.faults l.sink ≡ g.K.Sink.faults l.initial.sink;
  room : g.K.Sink.room l.initial.sink ≤ g.K.Sink.room l.sink + l.done;
}

abbrev pub decreases-loop-done : goal.decreases-loop-done
decreases-loop-done g l = length l.bytes - l.done
