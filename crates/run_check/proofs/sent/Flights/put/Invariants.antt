-- So far the first ones are put.
use Rattle.std.proofs.Common.{◌≡◌, ◌++◌, take}
use Rattle.std.specs.Prelude.{map}
use Rattle.protocol.specs.Fabric.{flight_of}
use Rattle.run_check.proofs.sent.Flights.put.Given as goal

abbrev pub invariant-loop-one : goal.invariant-loop-one
invariant-loop-one l = l.self-inside.flown.items ≡ l.initial.self-inside.flown.items ++ map (flight_of l.from) (take l.one-index l.sent)
