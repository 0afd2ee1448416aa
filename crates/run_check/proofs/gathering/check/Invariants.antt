use Rattle.std.proofs.Common.{take}
use Rattle.run_check.proofs.Loops.{IsChecked}
use Rattle.run_check.proofs.gathering.check.Given as goal

abbrev pub invariant-loop-k : goal.invariant-loop-k
invariant-loop-k l = IsChecked l.books l.receipts (take l.k l.entries) l.places.items l.heads.items l.flights l.stops.items
