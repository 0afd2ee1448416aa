use Rattle.std.proofs.Common.{◌≡◌, ◌-◌, ◌≤◌, length}
use Rattle.host_ports.specs.Streams.{Takes}
use Rattle.host_ports.proofs.reading.read_all.Given as goal

abbrev pub invariant-loop-bytes : goal.invariant-loop-bytes
invariant-loop-bytes g l = record {
  taken : Takes (g.S.Source.left l.initial.source) (g.S.Source.left l.source) l.bytes.items;
  short : length l.bytes.items ≤ l.limit;
  faults_unchanged : g.S.Source.faults l.source ≡ g.S.Source.faults l.initial.source;
  never_fails : g.S.Source.never_fails l.initial.source → g.S.Source.never_fails l.source;
}

abbrev pub decreases-loop-bytes : goal.decreases-loop-bytes
decreases-loop-bytes g l = l.limit - length l.bytes.items
