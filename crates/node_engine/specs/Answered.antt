-- What a run of a node leaves with each of its answers, and what a part of it leaves (this project's choice).
use Rattle.std.specs.Prelude.{Result, Ok, Err}
use Rattle.node_rules.specs.Parts.{IsMadeWhole}
use Rattle.node_rules.specs.Plan as plan
use Rattle.node_rules.specs.Plan.{Plan}
use Rattle.node_rules.specs.Stops.{DepotFailed, HasEnded, LinkFailed, MemoryRanOut, OutputFailed, StopsAt}
use Rattle.node_rules.specs.Told.{Contents}
use Rattle.node_engine.specs.declared.faults.NodeFault.{NodeFault}
use Rattle.node_engine.specs.declared.faults.NodeFault.TheVariants as fault

-- what a fault says of the plan that is left, of the contents that the calls before it left, and of those at the end
abbrev pub stop_of : NodeFault → Plan → Contents → Contents → Type 0
stop_of (fault.BadLine line column why) = HasEnded (plan.BadLine line (record { column = column; why = why }))
stop_of (fault.BadDump place why) = HasEnded (plan.BadDump place why)
stop_of fault.WriteFault = OutputFailed
stop_of fault.LinkFault = LinkFailed
stop_of fault.DepotFault = DepotFailed
stop_of (fault.Missing name) = HasEnded (plan.Missing name)
stop_of fault.OutOfMemory = MemoryRanOut

-- the plan was run: Ok where every line is answered, and each fault where it says
abbrev pub Answers : {U : Type 0} → Plan → Contents → Result U NodeFault → Contents → Type 0
Answers p before (Ok done) after = StopsAt (HasEnded plan.AllAnswered) p before after
Answers p before (Err e) after = StopsAt (stop_of e) p before after

-- the part of a plan was made whole and gave that value of the answer, or a fault stopped it, whatever follows it
abbrev pub Does : {A U : Type 0} → ((A → Plan) → Plan) → (U → A) → Contents → Result U NodeFault → Contents → Type 0
Does {A = A} part value before (Ok done) after = IsMadeWhole part (value done) before after
Does {A = A} part value before (Err e) after = (more : A → Plan) → StopsAt (stop_of e) (part more) before after

-- .. a part that gives nothing
abbrev pub DoesAll : {U : Type 0} → (Plan → Plan) → Contents → Result U NodeFault → Contents → Type 0
DoesAll part before result after = Does {A = Unit {0}} (λ more. part (more tt)) (λ done. tt) before result after
