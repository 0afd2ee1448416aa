-- Why a run of the program stops before it is done, and what is known there before its last line is written.
use Rattle.std.specs.Prelude.{ℕ, ◌≡◌, ◌≢◌, ◌≤◌, ◌⊎◌, ◌+◌, List, [], ◌++◌, length, map, Option, Some, None, Result, Ok, Err, String, Bool, true, false}
use Rattle.std.specs.String.{string_bytes}
use Rattle.std.specs.declared.alloc.Global.{Global}
use Rattle.rdma_types.specs.declared.names.Name.{Name}
use Rattle.rdma_types.specs.declared.requests.Address.{Address}
use Rattle.protocol.specs.declared.dumps.DumpWhy.{DumpWhy}
use Rattle.protocol.specs.Dumps.{Bad, read_dump}
use Rattle.host_ports.specs.Depots.{Has, Holding}
use Rattle.host_ports.specs.Streams.{TakesAll, TakesCount}
use Rattle.host_ports.specs.declared.reading.ReadAllFault.{ReadAllFault}
use Rattle.host_ports.specs.declared.reading.ReadAllFault.TheVariants as read
use Rattle.dump_reader.specs.declared.fault.DumpFault.{DumpFault}
use Rattle.dump_reader.specs.declared.fault.DumpFault.TheVariants as dump
use Rattle.workload_gen.specs.declared.plan.Mix.{Mix}
use Rattle.workload_gen.specs.Plan.{plan}
use Rattle.trace_rules.specs.Recording.{IsTraceOf, recorded_of}
use Rattle.run_traces.specs.Traces.{Traced, trace_of}
use Rattle.run_traces.specs.Verdicts.{AreRun}
use Rattle.run_traces.specs.declared.trace_audit.verdicts.AuditFault.{AuditFault}
use Rattle.run_traces.specs.declared.trace_audit.verdicts.AuditFault.TheVariants as audit
use Rattle.run_traces.specs.declared.trace_audit.verdicts.Verdict.TheVariants.{Illegal, Legal}
use Rattle.node_rules.specs.Plan as calls
use Rattle.node_rules.specs.Stops.{DepotFailed, HasEnded, LinkFailed, MemoryRanOut, OutputFailed, Rises}
use Rattle.node_rules.specs.Told.{Contents, Counts}
use Rattle.node_engine.specs.declared.faults.NodeFault.{NodeFault}
use Rattle.node_engine.specs.declared.faults.NodeFault.TheVariants as node
use Rattle.program_rules.specs.Commands as rules
use Rattle.program_rules.specs.Headline.{AreAnswersRead, ImageText, IsAudited, IsDone, IsDumpRead, IsHeldBack, bulk_text}
use Rattle.program_rules.specs.Nodes.{ComesTo}
use Rattle.program_rules.specs.Runs.{KeepsUnused, Run, TakesFew, Writes, command, input_limit}
use Rattle.law_headline.specs.Follows.{FollowsAll, IsFollowed}
use Rattle.law_headline.specs.Left.{world_of}
use Rattle.law_headline.specs.Script.{BadLine, answers_text, bad_line}
use Rattle.program_rules.specs.Texts.{evacuation_text, verdict_line}
use Rattle.packetless_machine.specs.Machine.{Machine}
use Rattle.law_simulation.specs.Stands.{Stands}
use Rattle.evac_rules.specs.Evacuation.{Fault, evacuation}
use Rattle.script_runner.specs.declared.fault.PlayFault.{PlayFault}
use Rattle.script_runner.specs.declared.fault.PlayFault.TheVariants as play
use Rattle.commands.specs.declared.stop.Stop.{Stop}
use Rattle.commands.specs.declared.stop.Stop.TheVariants as stop

-- ---- from the faults of parts

abbrev pub stop_of_read : ReadAllFault → Stop
stop_of_read read.ReadFault = stop.ReadFault
stop_of_read read.TooLong = stop.TooLong
stop_of_read read.OutOfMemory = stop.OutOfMemory

abbrev pub stop_of_play : PlayFault → Stop
stop_of_play (play.BadLine line column why) = stop.BadLine line column why
stop_of_play play.WriteFault = stop.WriteFault
stop_of_play play.OutOfMemory = stop.OutOfMemory

abbrev pub stop_of_dump : DumpFault → Stop
stop_of_dump (dump.BadDump place why) = stop.BadDump place why
stop_of_dump dump.OutOfMemory = stop.OutOfMemory

abbrev pub stop_of_audit : AuditFault → Stop
stop_of_audit (audit.BadLine line column why) = stop.BadLine line column why
stop_of_audit audit.OutOfMemory = stop.OutOfMemory

abbrev pub stop_of_node : NodeFault → Stop
stop_of_node (node.BadLine line column why) = stop.BadLine line column why
stop_of_node (node.BadDump place why) = stop.BadDump place why
stop_of_node node.WriteFault = stop.WriteFault
stop_of_node node.LinkFault = stop.LinkFault
stop_of_node node.DepotFault = stop.DepotFault
stop_of_node (node.Missing name) = stop.Missing name
stop_of_node node.OutOfMemory = stop.OutOfMemory

-- ---- counts of faults

-- the counts of link, depot and output
abbrev pub counts_of : ℕ → ℕ → ℕ → Counts
counts_of link depot output = record { link = link; depot = depot; output = output }

-- the count of the object whose call failed rose, and no other: that of the input, or one of these
abbrev pub Counted : {U : Type 0} → Result U Stop → ℕ → ℕ → Counts → Counts → Type 0
Counted (Ok done) input input' old new = (input' ≡ input) × (new ≡ old)
Counted (Err stop.ReadFault) input input' old new = Rises input input' × (new ≡ old)
Counted (Err stop.WriteFault) input input' old new = (input' ≡ input) × Rises old.output new.output × (new ≡ record old { output = new.output })
Counted (Err stop.LinkFault) input input' old new = (input' ≡ input) × Rises old.link new.link × (new ≡ record old { link = new.link })
Counted (Err stop.DepotFault) input input' old new = (input' ≡ input) × Rises old.depot new.depot × (new ≡ record old { depot = new.depot })
Counted (Err other) input input' old new = (input' ≡ input) × (new ≡ old)

-- ---- what is known

-- a run, by what its parts tell
abbrev pub run_of : List (String Global) → Option (List ℕ) → Option (List ℕ) → ℕ → ℕ → Contents → Contents → Run
run_of words left left_after input_faults input_faults_after before after = record {
  words = map string_bytes words;
  left = left;
  left_after = left_after;
  input_faults = input_faults;
  input_faults_after = input_faults_after;
  before = before;
  after = after;
}

-- the run with that to be read and that written, before and after
abbrev pub over : Run → Option (List ℕ) → Option (List ℕ) → Option (List ℕ) → Option (List ℕ) → Run
over r left left_after written written_after = record r { left = left; left_after = left_after; before = record r.before { written = written }; after = record r.after { written = written_after } }

-- the run with that written, before and after
abbrev pub over_output : Run → Option (List ℕ) → Option (List ℕ) → Run
over_output r written written_after = record r { before = record r.before { written = written }; after = record r.after { written = written_after } }

-- the run with that written and held, before and after
abbrev pub over_depot : Run → Option (List ℕ) → Option (List ℕ) → Option Holding → Option Holding → Run
over_depot r written written_after held held_after = record r { before = record r.before { written = written; held = held }; after = record r.after { written = written_after; held = held_after } }

-- nothing was written
abbrev pub IsSilent : Run → Type 0
IsSilent r = r.after.written ≡ r.before.written

-- a prefix was written of a text for which that holds
pub record WritesPrefix (P : List ℕ → Type 0) (r : Run) : Type 0 where
  pub prefix : List ℕ
  pub rest : List ℕ
  pub holds : P (prefix ++ rest)
  pub written : Writes r prefix

-- the answers to the lines before a bad one were written
pub record IsBadScript (r : Run) (bad : BadLine) : Type 0 where
  pub text : List ℕ
  pub read : TakesAll r.left r.left_after text
  pub short : length text ≤ input_limit
  pub first : bad_line text ≡ Some bad
  pub written : Writes r (answers_text text)
  pub followed : IsFollowed text

-- `play` stops
abbrev pub PlayStops : Run → Stop → Type 0
PlayStops r (stop.BadLine line column why) = IsBadScript r (record { number = line; offence = record { column = column; why = why } })
PlayStops r stop.ReadFault = IsSilent r × TakesFew r
PlayStops r stop.WriteFault = WritesPrefix (AreAnswersRead r) r
PlayStops r stop.OutOfMemory = TakesFew r × WritesPrefix (λ text. (text ≡ []) ⊎ AreAnswersRead r text) r
PlayStops r stop.TooLong = IsSilent r × TakesCount r.left r.left_after (input_limit + 1)
PlayStops r other = ⊥

-- the device is empty: no fault is told
abbrev pub is_empty : Option Fault → Bool
is_empty None = true
is_empty (Some fault) = false

-- the machine follows the steps of each evacuation that a text may end with
abbrev pub MovesAreFollowed : ℕ → List ℕ → List ℕ → Type 0
MovesAreFollowed from targets text = (m : Machine) → Stands (world_of text) m → FollowsAll (world_of text) m (evacuation (world_of text) from targets).steps

-- the answers were written, and a prefix of what becomes of the contexts
pub record IsToldInPart (r : Run) (from : ℕ) (targets : List ℕ) : Type 0 where
  pub text : List ℕ
  pub read : TakesAll r.left r.left_after text
  pub short : length text ≤ input_limit
  pub good : bad_line text ≡ None
  pub followed : IsFollowed text
  pub prefix : List ℕ
  pub rest : List ℕ
  pub splits : evacuation_text (evacuation (world_of text) from targets) ≡ prefix ++ rest
  pub written : Writes r (answers_text text ++ prefix)

-- .. or a prefix of the answers
pub record IsEvacuationCut (r : Run) (from : ℕ) (targets : List ℕ) : Type 0 where
  pub prefix : WritesPrefix (AreAnswersRead r) r ⊎ IsToldInPart r from targets
  pub moves : (text : List ℕ) → MovesAreFollowed from targets text

-- `evacuate` stops
abbrev pub EvacuateStops : ℕ → List ℕ → Run → Stop → Type 0
EvacuateStops from targets r stop.WriteFault = IsEvacuationCut r from targets
EvacuateStops from targets r stop.NotEmptied = IsHeldBack r from targets
EvacuateStops from targets r other = PlayStops r other

-- the whole input was read, and this is its first bad line as a trace
pub record IsBadTrace (r : Run) (bad : BadLine) : Type 0 where
  pub text : List ℕ
  pub read : TakesAll r.left r.left_after text
  pub short : length text ≤ input_limit
  pub first : trace_of text ≡ Err (bad.number, bad.offence)

-- a prefix of the verdict on a run of the machine was written
pub record IsJudgedInPart (r : Run) : Type 0 where
  pub verbs : ℕ
  pub inner : ℕ
  pub audited : IsAudited r (Legal verbs inner)
  pub prefix : WritesPrefix (λ text. text ≡ verdict_line (Legal verbs inner)) r

-- `audit` stops
abbrev pub AuditStops : Run → Stop → Type 0
AuditStops r (stop.BadLine line column why) = IsSilent r × IsBadTrace r (record { number = line; offence = record { column = column; why = why } })
AuditStops r stop.ReadFault = IsSilent r × TakesFew r
AuditStops r stop.WriteFault = IsJudgedInPart r
AuditStops r stop.OutOfMemory = IsSilent r × TakesFew r
AuditStops r stop.TooLong = IsSilent r × TakesCount r.left r.left_after (input_limit + 1)
AuditStops r (stop.Illegal line why) = IsSilent r × IsAudited r (Illegal line why)
AuditStops r other = ⊥

-- the whole input was read, and this is its first line that is bad or settles
pub record IsBadRecord (r : Run) (bad : BadLine) : Type 0 where
  pub text : List ℕ
  pub read : TakesAll r.left r.left_after text
  pub short : length text ≤ input_limit
  pub first : recorded_of text ≡ Err bad

-- a prefix of the trace was written
pub record IsRecordedInPart (r : Run) : Type 0 where
  pub text : List ℕ
  pub read : TakesAll r.left r.left_after text
  pub short : length text ≤ input_limit
  pub trace : List ℕ
  pub is : IsTraceOf text trace
  pub steps : List Traced
  pub says : trace_of trace ≡ Ok steps
  pub run : AreRun steps
  pub prefix : WritesPrefix (λ prefix. prefix ≡ trace) r

-- `record` stops
abbrev pub RecordStops : Run → Stop → Type 0
RecordStops r (stop.BadLine line column why) = IsSilent r × IsBadRecord r (record { number = line; offence = record { column = column; why = why } })
RecordStops r stop.ReadFault = IsSilent r × TakesFew r
RecordStops r stop.WriteFault = IsRecordedInPart r
RecordStops r stop.OutOfMemory = IsSilent r × TakesFew r
RecordStops r stop.TooLong = IsSilent r × TakesCount r.left r.left_after (input_limit + 1)
RecordStops r other = ⊥

-- `node` stops
abbrev pub NodeStops : ℕ → Address → Run → Stop → Type 0
NodeStops id own r (stop.BadLine line column why) = ComesTo r id own (HasEnded (calls.BadLine line (record { column = column; why = why }))) r.after
NodeStops id own r (stop.BadDump place why) = ComesTo r id own (HasEnded (calls.BadDump place why)) r.after
NodeStops id own r stop.ReadFault = (r.after ≡ r.before) × TakesFew r
NodeStops id own r stop.WriteFault = ComesTo r id own OutputFailed r.after
NodeStops id own r stop.LinkFault = ComesTo r id own LinkFailed r.after
NodeStops id own r stop.DepotFault = ComesTo r id own DepotFailed r.after
NodeStops id own r stop.OutOfMemory = ComesTo r id own MemoryRanOut r.after ⊎ ((r.after ≡ r.before) × TakesFew r)
NodeStops id own r stop.TooLong = (r.after ≡ r.before) × TakesCount r.left r.left_after (input_limit + 1)
NodeStops id own r (stop.Missing name) = ComesTo r id own (HasEnded (calls.Missing name)) r.after
NodeStops id own r other = ⊥

-- what a run of `node` leaves
abbrev pub NodeEnds : {U : Type 0} → ℕ → Address → Run → Result U Stop → Type 0
NodeEnds id own r (Ok done) = ComesTo r id own (HasEnded calls.AllAnswered) r.after
NodeEnds id own r (Err x) = NodeStops id own r x

-- the answers to a script are not known: a line of it is bad, or it was out of memory
abbrev pub AnswersStop : List ℕ → Stop → Type 0
AnswersStop script (stop.BadLine line column why) = bad_line script ≡ Some (record { number = line; offence = record { column = column; why = why } })
AnswersStop script stop.OutOfMemory = Unit {0}
AnswersStop script other = ⊥

-- a prefix of the line that sums a generated script up was written
pub record IsSummedUpInPart (r : Run) (seed : ℕ) (mix : Mix) : Type 0 where
  pub good : bad_line (plan seed mix) ≡ None
  pub prefix : WritesPrefix (λ text. text ≡ bulk_text seed mix) r
  pub followed : IsFollowed (plan seed mix)

-- `bulk` stops
abbrev pub BulkStops : ℕ → Mix → Run → Stop → Type 0
BulkStops seed mix r (stop.BadLine line column why) = IsSilent r × (bad_line (plan seed mix) ≡ Some (record { number = line; offence = record { column = column; why = why } }))
BulkStops seed mix r stop.WriteFault = IsSummedUpInPart r seed mix
BulkStops seed mix r stop.OutOfMemory = IsSilent r
BulkStops seed mix r other = ⊥

-- the bytes under a name are no dump
pub record HasBadDump (r : Run) (name : Name) (place : ℕ) (why : DumpWhy) : Type 0 where
  pub bytes : List ℕ
  pub found : Has r.before.held name (Some bytes)
  pub reads : read_dump bytes ≡ Bad place why

-- the depot gives no bytes
abbrev pub LookStops : Option Holding → Name → Stop → Type 0
LookStops stored name stop.DepotFault = Unit {0}
LookStops stored name stop.OutOfMemory = Unit {0}
LookStops stored name (stop.Missing other) = (other ≡ name) × Has stored name None
LookStops stored name other = ⊥

-- `show-dump` stops
abbrev pub ShowStops : ImageText → Name → Run → Stop → Type 0
ShowStops said name r (stop.BadDump place why) = IsSilent r × HasBadDump r name place why
ShowStops said name r stop.WriteFault = WritesPrefix (IsDumpRead said r name) r
ShowStops said name r stop.DepotFault = IsSilent r
ShowStops said name r stop.OutOfMemory = IsSilent r
ShowStops said name r (stop.Missing other) = IsSilent r × (other ≡ name) × Has r.before.held name None
ShowStops said name r other = ⊥

-- no command is known: the words are of none, or it was out of memory
abbrev pub IsNotAsked : Option rules.Command → Stop → Type 0
IsNotAsked k stop.Usage = k ≡ None
IsNotAsked k stop.OutOfMemory = k ≢ None
IsNotAsked k other = ⊥

-- words of no command stop a run
abbrev pub WordsStop : Run → Stop → Type 0
WordsStop r stop.Usage = IsSilent r
WordsStop r other = ⊥

-- a command stops
abbrev pub StopsBy : ImageText → Run → Option rules.Command → Stop → Type 0
StopsBy said r None x = WordsStop r x
StopsBy said r (Some rules.Play) x = PlayStops r x
StopsBy said r (Some (rules.Bulk seed mix)) x = BulkStops seed mix r x
StopsBy said r (Some (rules.ShowDump name)) x = ShowStops said name r x
StopsBy said r (Some (rules.Evacuate from targets)) x = EvacuateStops from targets r x
StopsBy said r (Some rules.Audit) x = AuditStops r x
StopsBy said r (Some rules.Record) x = RecordStops r x
StopsBy said r (Some (rules.Node id own)) x = NodeStops id own r x

-- the command of a run stops
abbrev pub StopsFor : ImageText → Run → Stop → Type 0
StopsFor said r x = StopsBy said r (command r) x

-- what is known where a command is done, or stops
abbrev pub Comes : {U : Type 0} → ImageText → Run → Result U Stop → Type 0
Comes said r (Ok done) = IsDone said r
Comes said r (Err x) = StopsFor said r x

-- what a command leaves before the last line
pub record Performs {U : Type 0} (said : ImageText) (r : Run) (result : Result U Stop) : Type 0 where
  pub comes : Comes said r result
  pub counts : Counted result r.input_faults r.input_faults_after r.before.faults r.after.faults
  pub unused : KeepsUnused r
