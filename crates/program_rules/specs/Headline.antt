-- What a run of the program leaves under each status: what was read, what was written, and what is claimed of it.
use Rattle.std.specs.Prelude.{ℕ, ◌≡◌, ◌≤◌, ◌⊎◌, ◌+◌, List, [], ◌++◌, length, Option, Some, None, Ok, Err}
use Rattle.rdma_types.specs.declared.names.Name.{Name}
use Rattle.protocol.specs.declared.dumps.DumpWhy.{DumpWhy}
use Rattle.protocol.specs.declared.images.ContextImage.{ContextImage}
use Rattle.protocol.specs.Dumps.{Good, Bad, read_dump}
use Rattle.packetless_machine.specs.Machine.{Machine}
use Rattle.law_simulation.specs.Stands.{Stands}
use Rattle.evac_rules.specs.Evacuation.{Fault, evacuation}
use Rattle.host_ports.specs.Depots.{Has}
use Rattle.host_ports.specs.Streams.{TakesCount}
use Rattle.workload_gen.specs.declared.plan.Mix.{Mix}
use Rattle.workload_gen.specs.Plan.{plan}
use Rattle.workload_gen.specs.Summary.{summary}
use Rattle.run_traces.specs.declared.trace_audit.verdicts.AuditWhy.{AuditWhy}
use Rattle.run_traces.specs.declared.trace_audit.verdicts.Verdict.{Verdict}
use Rattle.run_traces.specs.declared.trace_audit.verdicts.Verdict.TheVariants as verdict
use Rattle.run_traces.specs.Traces.{Traced, trace_of}
use Rattle.run_traces.specs.Verdicts.{AreRun, IsVerdict, verdict_of}
use Rattle.trace_rules.specs.Recording.{IsTraceOf, recorded_of}
use Rattle.node_rules.specs.Plan.{AllAnswered}
use Rattle.node_rules.specs.Stops.{DepotFailed, HasEnded, LinkFailed}
use Rattle.program_rules.specs.Commands.{Command, Play, Bulk, ShowDump, Evacuate, Audit, Record, Node}
use Rattle.law_headline.specs.Follows.{FollowsAll, IsFollowed}
use Rattle.law_headline.specs.Left.{world_of}
use Rattle.law_headline.specs.Script.{BadLine, answers_text, bad_line}
use Rattle.program_rules.specs.Nodes.{ComesTo, EndsAtBadDump, EndsAtBadLine, EndsAtMissing, EndsThere, EndsWithoutMemory}
use Rattle.program_rules.specs.Runs.{ReadsAll, ReadsInput, Run, TakesFew, Writes, WritesLine, command, input_limit}
use Rattle.program_rules.specs.Texts.{bad_dump_line, bad_line_line, depot_line, evacuation_text, link_line, long_line, memory_line, missing_line, usage_line, verdict_line}

-- the text of an image, which is given by the definitions of dumps
abbrev pub ImageText : Type 0
ImageText = ContextImage → List ℕ

-- the summary of a generated script and of its answers
abbrev pub bulk_text : ℕ → Mix → List ℕ
bulk_text seed mix = summary (plan seed mix) (answers_text (plan seed mix))

-- ---- status 0

-- `play`: the whole input was read, none of its lines is bad, and what was written is the answers to them; the machine
-- follows them
pub record IsAnswered (r : Run) : Type 0 where
  pub text : List ℕ
  pub read : ReadsAll r text
  pub short : length text ≤ input_limit
  pub good : bad_line text ≡ None
  pub written : Writes r (answers_text text)
  pub followed : IsFollowed text

-- `bulk`: no line of the generated script is bad, and what was written is the summary of it; the machine follows it
pub record IsSummedUp (r : Run) (seed : ℕ) (mix : Mix) : Type 0 where
  pub good : bad_line (plan seed mix) ≡ None
  pub written : Writes r (bulk_text seed mix)
  pub followed : IsFollowed (plan seed mix)

-- `show-dump`: the depot holds a dump under the name, and what was written is what it says
pub record IsShown (said : ImageText) (r : Run) (name : Name) : Type 0 where
  pub bytes : List ℕ
  pub found : Has r.before.held name (Some bytes)
  pub image : ContextImage
  pub place : ℕ
  pub rest : List ℕ
  pub reads : read_dump bytes ≡ Good image place rest
  pub written : Writes r (said image)

-- `evacuate`, also where the device is not emptied: the whole input was read, none of its lines is bad, and what was written is the
-- answers to them, the contexts that moved, and how it ended; the machine follows the lines, and then each step of the evacuation
pub record IsEvacuated (r : Run) (from : ℕ) (targets : List ℕ) (fault : Option Fault) : Type 0 where
  pub text : List ℕ
  pub read : ReadsAll r text
  pub short : length text ≤ input_limit
  pub good : bad_line text ≡ None
  pub ended : (evacuation (world_of text) from targets).fault ≡ fault
  pub written : Writes r (answers_text text ++ evacuation_text (evacuation (world_of text) from targets))
  pub followed : IsFollowed text
  pub moves : (m : Machine) → Stands (world_of text) m → FollowsAll (world_of text) m (evacuation (world_of text) from targets).steps

-- what an audit finds of the whole input, which is a trace; and the verdict is right: `Legal` comes exactly where its steps are a
-- run of the packetless machine with these answers, and `Illegal` at the first line that can be of no run
pub record IsAudited (r : Run) (found : Verdict) : Type 0 where
  pub text : List ℕ
  pub read : ReadsAll r text
  pub short : length text ≤ input_limit
  pub steps : List Traced
  pub says : trace_of text ≡ Ok steps
  pub finds : verdict_of steps ≡ found
  pub right : IsVerdict steps

-- `audit`: the trace is a run of the machine, and what was written is the verdict, with the numbers of its verbs and inner steps
pub record IsLegalTrace (r : Run) : Type 0 where
  pub verbs : ℕ
  pub inner : ℕ
  pub audited : IsAudited r (verdict.Legal verbs inner)
  pub written : Writes r (verdict_line (verdict.Legal verbs inner))

-- `record`: the whole input was read, and what was written is the trace of its lines, none of which is bad or settles; its steps are
-- a run of the packetless machine
pub record IsRecorded (r : Run) : Type 0 where
  pub text : List ℕ
  pub read : ReadsAll r text
  pub short : length text ≤ input_limit
  pub trace : List ℕ
  pub is : IsTraceOf text trace
  pub steps : List Traced
  pub says : trace_of trace ≡ Ok steps
  pub run : AreRun steps
  pub written : Writes r trace

-- the command is done
abbrev pub IsDoneBy : ImageText → Run → Option Command → Type 0
IsDoneBy said r None = ⊥
IsDoneBy said r (Some Play) = IsAnswered r
IsDoneBy said r (Some (Bulk seed mix)) = IsSummedUp r seed mix
IsDoneBy said r (Some (ShowDump name)) = IsShown said r name
IsDoneBy said r (Some (Evacuate from targets)) = IsEvacuated r from targets None
IsDoneBy said r (Some Audit) = IsLegalTrace r
IsDoneBy said r (Some Record) = IsRecorded r
IsDoneBy said r (Some (Node id own)) = ComesTo r id own (HasEnded AllAnswered) r.after

-- .. the run's command
abbrev pub IsDone : ImageText → Run → Type 0
IsDone said r = IsDoneBy said r (command r)

-- ---- status 2

-- the words are of no command
pub record IsOfNoCommand (r : Run) : Type 0 where
  pub no_command : command r ≡ None
  pub written : Writes r usage_line

-- ---- status 3

-- `play` and `evacuate`: the whole input was read, and what was written is the answers to the lines before its first bad one, which the
-- machine follows, and the last line with the number, the column and the reason of that
pub record IsStoppedAtBadLine (r : Run) : Type 0 where
  pub text : List ℕ
  pub read : ReadsAll r text
  pub short : length text ≤ input_limit
  pub bad : BadLine
  pub first : bad_line text ≡ Some bad
  pub written : Writes r (answers_text text ++ bad_line_line bad)
  pub followed : IsFollowed text

-- `show-dump`: the depot holds bytes under the name that are no dump, and what was written is the last line with the place
-- and the reason
pub record IsStoppedAtBadDump (r : Run) (name : Name) : Type 0 where
  pub bytes : List ℕ
  pub found : Has r.before.held name (Some bytes)
  pub place : ℕ
  pub why : DumpWhy
  pub reads : read_dump bytes ≡ Bad place why
  pub written : Writes r (bad_dump_line place why)

-- `bulk`: a line of the generated script is bad, and what was written is the last line
pub record IsStoppedInBulk (r : Run) (seed : ℕ) (mix : Mix) : Type 0 where
  pub bad : BadLine
  pub first : bad_line (plan seed mix) ≡ Some bad
  pub written : Writes r (bad_line_line bad)

-- `audit`: the whole input was read and is no trace, and what was written is the last line with the number, the column and the
-- reason of its first bad line
pub record IsStoppedAtBadTrace (r : Run) : Type 0 where
  pub text : List ℕ
  pub read : ReadsAll r text
  pub short : length text ≤ input_limit
  pub bad : BadLine
  pub first : trace_of text ≡ Err (bad.number, bad.offence)
  pub written : Writes r (bad_line_line bad)

-- `record`: the whole input was read, and what was written is the last line with the number, the column and the reason of its first
-- line that is bad or settles
pub record IsStoppedAtBadRecord (r : Run) : Type 0 where
  pub text : List ℕ
  pub read : ReadsAll r text
  pub short : length text ≤ input_limit
  pub bad : BadLine
  pub first : recorded_of text ≡ Err bad
  pub written : Writes r (bad_line_line bad)

-- a line or the dump is not in its grammar
abbrev pub IsStoppedBy : Run → Option Command → Type 0
IsStoppedBy r None = ⊥
IsStoppedBy r (Some Play) = IsStoppedAtBadLine r
IsStoppedBy r (Some (Bulk seed mix)) = IsStoppedInBulk r seed mix
IsStoppedBy r (Some (ShowDump name)) = IsStoppedAtBadDump r name
IsStoppedBy r (Some (Evacuate from targets)) = IsStoppedAtBadLine r
IsStoppedBy r (Some Audit) = IsStoppedAtBadTrace r
IsStoppedBy r (Some Record) = IsStoppedAtBadRecord r
IsStoppedBy r (Some (Node id own)) = EndsAtBadLine r id own ⊎ EndsAtBadDump r id own

-- .. which the run's command was given
abbrev pub IsStopped : Run → Type 0
IsStopped r = IsStoppedBy r (command r)

-- ---- statuses 4, 6, 7, 9 and 12

-- a read failed: the command reads the input, no more was taken than the limit, and nothing else was touched
pub record IsUnread (r : Run) : Type 0 where
  pub reads : ReadsInput (command r)
  pub few : TakesFew r
  pub kept : r.after ≡ r.before

-- the link failed, which `node` alone uses
abbrev pub IsWithoutLinkBy : Run → Option Command → Type 0
IsWithoutLinkBy r (Some (Node id own)) = EndsThere r id own LinkFailed link_line
IsWithoutLinkBy r other = ⊥

-- the depot failed, which `show-dump` and `node` use
abbrev pub IsWithoutDepotBy : Run → Option Command → Type 0
IsWithoutDepotBy r (Some (ShowDump name)) = Writes r depot_line
IsWithoutDepotBy r (Some (Node id own)) = EndsThere r id own DepotFailed depot_line
IsWithoutDepotBy r other = ⊥

-- the input has more bytes than the limit: the command reads it, and nothing but the last line was written
pub record IsTooLong (r : Run) : Type 0 where
  pub reads : ReadsInput (command r)
  pub read : TakesCount r.left r.left_after (input_limit + 1)
  pub last : WritesLine long_line r.before r.after

-- the depot holds nothing under the name
abbrev pub IsMissingBy : Run → Option Command → Type 0
IsMissingBy r (Some (ShowDump name)) = Has r.before.held name None × Writes r (missing_line name)
IsMissingBy r (Some (Node id own)) = EndsAtMissing r id own
IsMissingBy r other = ⊥

-- ---- statuses 13 and 14

-- the trace is no run of the machine, and what was written is the verdict
pub record IsIllegalTrace (r : Run) : Type 0 where
  pub line : ℕ
  pub why : AuditWhy
  pub audited : IsAudited r (verdict.Illegal line why)
  pub written : Writes r (verdict_line (verdict.Illegal line why))

-- .. which `audit` alone says
abbrev pub IsNotLegalBy : Run → Option Command → Type 0
IsNotLegalBy r (Some Audit) = IsIllegalTrace r
IsNotLegalBy r other = ⊥

-- the device is not emptied: it or a target is not there, or a context stays
pub record IsHeldBack (r : Run) (from : ℕ) (targets : List ℕ) : Type 0 where
  pub fault : Fault
  pub is : IsEvacuated r from targets (Some fault)

-- .. which `evacuate` alone says
abbrev pub IsNotEmptiedBy : Run → Option Command → Type 0
IsNotEmptiedBy r (Some (Evacuate from targets)) = IsHeldBack r from targets
IsNotEmptiedBy r other = ⊥

-- ---- status 8, and a prefix of what the command writes

-- the input was read to its end, and this is the answers to it; the machine follows its lines
pub record AreAnswersRead (r : Run) (answers : List ℕ) : Type 0 where
  pub text : List ℕ
  pub read : ReadsAll r text
  pub short : length text ≤ input_limit
  pub are : answers ≡ answers_text text
  pub followed : IsFollowed text

-- the depot holds a dump under the name, and this is what it says
pub record IsDumpRead (said : ImageText) (r : Run) (name : Name) (text : List ℕ) : Type 0 where
  pub bytes : List ℕ
  pub found : Has r.before.held name (Some bytes)
  pub image : ContextImage
  pub place : ℕ
  pub rest : List ℕ
  pub reads : read_dump bytes ≡ Good image place rest
  pub is : text ≡ said image

-- what the command writes where nothing stops it; nothing where it was stopped before
abbrev pub IsToWriteBy : ImageText → Run → Option Command → List ℕ → Type 0
IsToWriteBy said r None text = text ≡ []
IsToWriteBy said r (Some Play) text = (text ≡ []) ⊎ AreAnswersRead r text
IsToWriteBy said r (Some (Bulk seed mix)) text = (text ≡ []) ⊎ (text ≡ bulk_text seed mix)
IsToWriteBy said r (Some (ShowDump name)) text = (text ≡ []) ⊎ IsDumpRead said r name text
IsToWriteBy said r (Some (Evacuate from targets)) text = (text ≡ []) ⊎ AreAnswersRead r text
IsToWriteBy said r (Some Audit) text = text ≡ []
IsToWriteBy said r (Some Record) text = text ≡ []
IsToWriteBy said r (Some (Node id own)) text = ⊥

-- .. for the run's command
abbrev pub IsToWrite : ImageText → Run → List ℕ → Type 0
IsToWrite said r text = IsToWriteBy said r (command r) text

-- no more was taken of the input than the limit, and what was written is a prefix of what the command writes, and the last line
pub record IsCutShort (said : ImageText) (r : Run) : Type 0 where
  pub few : TakesFew r
  pub prefix : List ℕ
  pub rest : List ℕ
  pub to_write : IsToWrite said r (prefix ++ rest)
  pub written : Writes r (prefix ++ memory_line)

-- status 8: memory ran out
abbrev pub IsShortOfMemoryBy : ImageText → Run → Option Command → Type 0
IsShortOfMemoryBy said r None = ⊥
IsShortOfMemoryBy said r (Some (Node id own)) = EndsWithoutMemory r id own
IsShortOfMemoryBy said r other = IsCutShort said r
