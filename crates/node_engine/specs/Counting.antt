-- What a run leaves of the counts of faults (this project's choice).
use Rattle.std.specs.Prelude.{◌≡◌, Result, Ok, Err}
use Rattle.node_rules.specs.Stops.{Rises}
use Rattle.node_rules.specs.Told.{Counts}
use Rattle.node_engine.specs.declared.faults.NodeFault.{NodeFault}
use Rattle.node_engine.specs.declared.faults.NodeFault.TheVariants as fault

-- the count of the object whose call failed rose, and the others stayed; where none failed, all stayed
abbrev pub Counted : {U : Type 0} → Counts → Result U NodeFault → Counts → Type 0
Counted old (Ok done) new = new ≡ old
Counted old (Err (fault.BadLine line column why)) new = new ≡ old
Counted old (Err (fault.BadDump place why)) new = new ≡ old
Counted old (Err fault.WriteFault) new = Rises old.output new.output × (new ≡ record old { output = new.output })
Counted old (Err fault.LinkFault) new = Rises old.link new.link × (new ≡ record old { link = new.link })
Counted old (Err fault.DepotFault) new = Rises old.depot new.depot × (new ≡ record old { depot = new.depot })
Counted old (Err (fault.Missing name)) new = new ≡ old
Counted old (Err fault.OutOfMemory) new = new ≡ old
