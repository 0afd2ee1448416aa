-- How a run of the program ends: its status, what is claimed under each, and which count of faults rose.
use Rattle.std.specs.Prelude.{ℕ, ◌≡◌, List, Option, Some, None}
use Rattle.evac_rules.specs.Evacuation.{Fault}
use Rattle.host_ports.specs.Streams.{Puts}
use Rattle.run_traces.specs.declared.trace_audit.verdicts.Verdict.{Verdict}
use Rattle.run_traces.specs.declared.trace_audit.verdicts.Verdict.TheVariants as verdict
use Rattle.node_rules.specs.Stops.{Rises}
use Rattle.program_rules.specs.Headline.{ImageText, IsDone, IsMissingBy, IsNotEmptiedBy, IsNotLegalBy, IsOfNoCommand, IsShortOfMemoryBy, IsStopped, IsTooLong, IsUnread, IsWithoutDepotBy, IsWithoutLinkBy}
use Rattle.program_rules.specs.Commands.{Command, Node}
use Rattle.program_rules.specs.Nodes.{IsNodeUnwritten}
use Rattle.program_rules.specs.Runs.{KeepsUnused, Run, command}

-- ---- statuses

pub data Status : Type 0 where
  Done : Status  -- the command is done
  WrongWords : Status  -- the words are of no command
  BadInput : Status  -- a line or a dump is not in its grammar
  Unread : Status  -- the input failed
  Unwritten : Status  -- the output failed
  NoLink : Status  -- the link failed
  NoDepot : Status  -- the depot failed
  NoMemory : Status  -- memory ran out
  TooLong : Status  -- the input has too many bytes
  NotHeld : Status  -- the depot holds nothing under a name
  NotLegal : Status  -- a trace is no run of the packetless machine
  NotEmptied : Status  -- a device is not emptied

-- its number
abbrev pub code : Status → ℕ
code Done = 0
code WrongWords = 2
code BadInput = 3
code Unread = 4
code Unwritten = 5
code NoLink = 6
code NoDepot = 7
code NoMemory = 8
code TooLong = 9
code NotHeld = 12
code NotLegal = 13
code NotEmptied = 14

-- the number of a run of `audit` that finds this, and of one of `evacuate` that ends with this fault or none
abbrev pub verdict_status : Verdict → ℕ
verdict_status (verdict.Legal verbs inner) = code Done
verdict_status (verdict.Illegal line why) = code NotLegal

abbrev pub emptied_status : Option Fault → ℕ
emptied_status None = code Done
emptied_status (Some fault) = code NotEmptied

-- ---- counts of faults

-- no count rose
abbrev pub CountsNone : Run → Type 0
CountsNone r = (r.input_faults_after ≡ r.input_faults) × (r.after.faults ≡ r.before.faults)

-- that of the object that failed rose, and no other; where none failed, none rose. Where the output failed in the last line after
-- a fault of the link or the depot, the counts of both rose
abbrev pub CountsAs : Run → Status → Type 0
CountsAs r Unread = Rises r.input_faults r.input_faults_after × (r.after.faults ≡ r.before.faults)
CountsAs r Unwritten = (r.input_faults_after ≡ r.input_faults) × Rises r.before.faults.output r.after.faults.output
CountsAs r NoLink = (r.input_faults_after ≡ r.input_faults) × Rises r.before.faults.link r.after.faults.link × (r.after.faults ≡ record r.before.faults { link = r.after.faults.link })
CountsAs r NoDepot = (r.input_faults_after ≡ r.input_faults) × Rises r.before.faults.depot r.after.faults.depot × (r.after.faults ≡ record r.before.faults { depot = r.after.faults.depot })
CountsAs r other = CountsNone r

-- ---- claims

-- what is claimed under a status of a run that was not cut off and that may write: the command is done, or it stopped and its last
-- line was written
abbrev pub IsWritten : ImageText → Run → Status → Type 0
IsWritten said r Done = IsDone said r
IsWritten said r WrongWords = IsOfNoCommand r
IsWritten said r BadInput = IsStopped r
IsWritten said r NoLink = IsWithoutLinkBy r (command r)
IsWritten said r NoDepot = IsWithoutDepotBy r (command r)
IsWritten said r NoMemory = IsShortOfMemoryBy said r (command r)
IsWritten said r TooLong = IsTooLong r
IsWritten said r NotHeld = IsMissingBy r (command r)
IsWritten said r NotLegal = IsNotLegalBy r (command r)
IsWritten said r NotEmptied = IsNotEmptiedBy r (command r)
IsWritten said r other = ⊥

-- the run as it were, had more been written and no fault of the output been counted
abbrev pub uncut : Run → Option (List ℕ) → Run
uncut r whole = record r { after = record r.after { written = whole; faults = record r.after.faults { output = r.before.faults.output } } }

-- a write failed. What was written is a prefix of what a run under another status writes: had the rest been written too, it would
-- be such a run
pub record IsCutOff (said : ImageText) (r : Run) : Type 0 where
  pub rest : List ℕ
  pub whole : Option (List ℕ)
  pub missing : Puts r.after.written whole rest
  pub status : Status
  pub is : IsWritten said (uncut r whole) status
  pub counts : CountsAs (uncut r whole) status

-- .. which of a node says too little, whose calls reach others: there only an answer or the last line is cut off, and nothing is
-- done behind it
abbrev pub IsUnwrittenBy : ImageText → Run → Option Command → Type 0
IsUnwrittenBy said r (Some (Node id own)) = IsNodeUnwritten r id own
IsUnwrittenBy said r other = IsCutOff said r

-- what is claimed under each status
abbrev pub Claims : ImageText → Run → Status → Type 0
Claims said r Unread = IsUnread r
Claims said r Unwritten = IsUnwrittenBy said r (command r)
Claims said r other = IsWritten said r other

-- a run ends with this number
pub record Ends (said : ImageText) (r : Run) (number : ℕ) : Type 0 where
  pub status : Status
  pub is : number ≡ code status
  pub claims : Claims said r status
  pub counts : CountsAs r status
  pub unused : KeepsUnused r
