-- Which status is due, where words, input and depot are known and nothing failed: that is the number, or memory ran out.
use Rattle.std.specs.Prelude.{ℕ, ◌≡◌, ◌≤◌, ◌+◌, ◌⊎◌, List, length, Option, Some, None, Result, Ok, Err, IsSome}
use Rattle.rdma_types.specs.declared.names.Name.{Name}
use Rattle.rdma_types.specs.declared.requests.Address.{Address}
use Rattle.protocol.specs.declared.dumps.DumpWhy.{DumpWhy}
use Rattle.protocol.specs.declared.images.ContextImage.{ContextImage}
use Rattle.protocol.specs.Dumps.{Bad, Good, read_dump}
use Rattle.evac_rules.specs.Evacuation.{evacuation}
use Rattle.host_ports.specs.Depots.{Has}
use Rattle.host_ports.specs.Streams.{FaultsCounted, TakesCount}
use Rattle.workload_gen.specs.declared.plan.Mix.{Mix}
use Rattle.run_traces.specs.Traces.{Reading, trace_of}
use Rattle.run_traces.specs.Verdicts.{verdict_of}
use Rattle.trace_rules.specs.Recording.{Written, recorded_of}
use Rattle.law_headline.specs.Left.{world_of}
use Rattle.law_headline.specs.Script.{BadLine, bad_line}
use Rattle.node_rules.specs.Outside.{Outside, node_run}
use Rattle.node_rules.specs.Plan as plan
use Rattle.node_rules.specs.Told.{told}
use Rattle.program_rules.specs.Commands.{Audit, Bulk, Evacuate, Node, Play, Record, ShowDump}
use Rattle.program_rules.specs.Ends.{BadInput, Done, NoDepot, NoMemory, NotHeld, Status, TooLong, Unwritten, WrongWords, code, emptied_status, verdict_status}
use Rattle.program_rules.specs.Headline.{ImageText}
use Rattle.program_rules.specs.Runs.{ReadsInput, Run, Writes, command, input_limit}

-- the number is that of the status, or of a lack of memory
abbrev pub IsOrLacks : ℕ → ℕ → Type 0
IsOrLacks number due = (number ≡ due) ⊎ (number ≡ code NoMemory)

-- ---- what did not fail

abbrev pub IsRead : Run → Type 0
IsRead r = FaultsCounted r.input_faults r.input_faults_after → ⊥

abbrev pub IsOutputSound : Run → Type 0
IsOutputSound r = FaultsCounted r.before.faults.output r.after.faults.output → ⊥

abbrev pub IsDepotSound : Run → Type 0
IsDepotSound r = FaultsCounted r.before.faults.depot r.after.faults.depot → ⊥

abbrev pub IsLinkSound : Run → Type 0
IsLinkSound r = FaultsCounted r.before.faults.link r.after.faults.link → ⊥

-- that is the whole input, which is no longer than the limit, and neither the input nor the output failed
pub record IsWholeInput (r : Run) (text : List ℕ) : Type 0 where
  pub left : r.left ≡ Some text
  pub short : length text ≤ input_limit
  pub read : IsRead r
  pub output : IsOutputSound r

-- ---- scripts and traces

-- the status of a script with that first bad line, where it has this one without
abbrev pub script_status : Option BadLine → ℕ → ℕ
script_status None status = status
script_status (Some bad) status = code BadInput

-- the status of a trace that reads so
abbrev pub trace_status : Reading → ℕ
trace_status (Ok steps) = verdict_status (verdict_of steps)
trace_status (Err bad) = code BadInput

-- the status of a script whose lines are recorded so
abbrev pub recorded_status : Result (List Written) BadLine → ℕ
recorded_status (Ok lines) = code Done
recorded_status (Err bad) = code BadInput

-- ---- nodes

-- the status of a node whose script ends so
abbrev pub ending_status : plan.Ending → Status
ending_status plan.AllAnswered = Done
ending_status (plan.BadLine number offence) = BadInput
ending_status (plan.BadDump place why) = BadInput
ending_status (plan.Missing name) = NotHeld

-- link, clock, depot and output tell what they hold, and no call of theirs failed
pub record IsTold (r : Run) (o : Outside) : Type 0 where
  pub told_whole : r.before ≡ told o r.before.faults
  pub link : IsLinkSound r
  pub depot : IsDepotSound r

-- ---- all commands

pub record IsDue (said : ImageText) (r : Run) (number : ℕ) : Type 0 where
  -- status 2 comes exactly where the words are of no command
  pub usage : command r ≡ None → (number ≡ code WrongWords) ⊎ (number ≡ code Unwritten)
  -- status 9 comes exactly where one byte more than the limit was taken
  pub long : ReadsInput (command r) → IsSome r.left → TakesCount r.left r.left_after (input_limit + 1) → (number ≡ code TooLong) ⊎ (number ≡ code Unwritten)
  -- status 12 comes exactly where the depot holds nothing under the name, unless it fails or memory runs out
  pub missing : (name : Name) → command r ≡ Some (ShowDump name) → IsSome r.before.held → Has r.before.held name None → (number ≡ code NotHeld) ⊎ (number ≡ code NoDepot) ⊎ (number ≡ code NoMemory) ⊎ (number ≡ code Unwritten)
  -- a script is answered whole exactly where all its lines are good, and a generated one always
  pub play : (text : List ℕ) → command r ≡ Some Play → IsWholeInput r text → IsOrLacks number (script_status (bad_line text) (code Done))
  pub bulk : (seed : ℕ) (mix : Mix) → command r ≡ Some (Bulk seed mix) → IsOutputSound r → IsOrLacks number (code Done)
  -- what a dump says is written exactly where the bytes are one
  pub show_dump : (name : Name) (bytes : List ℕ) (image : ContextImage) (place : ℕ) (rest : List ℕ) → command r ≡ Some (ShowDump name) → IsSome r.before.held → Has r.before.held name (Some bytes) → read_dump bytes ≡ Good image place rest → IsDepotSound r → IsOutputSound r → ((number ≡ code Done) × Writes r (said image)) ⊎ (number ≡ code NoMemory)
  pub bad_dump : (name : Name) (bytes : List ℕ) (place : ℕ) (why : DumpWhy) → command r ≡ Some (ShowDump name) → IsSome r.before.held → Has r.before.held name (Some bytes) → read_dump bytes ≡ Bad place why → IsDepotSound r → IsOutputSound r → IsOrLacks number (code BadInput)
  -- a trace is judged as the machine says, a device is emptied exactly where the rules say so, and a script is recorded exactly
  -- where its lines are good and none settles
  pub audit : (text : List ℕ) → command r ≡ Some Audit → IsWholeInput r text → IsOrLacks number (trace_status (trace_of text))
  pub evacuate : (from : ℕ) (targets text : List ℕ) → command r ≡ Some (Evacuate from targets) → IsWholeInput r text → IsOrLacks number (script_status (bad_line text) (emptied_status (evacuation (world_of text) from targets).fault))
  pub record_trace : (text : List ℕ) → command r ≡ Some Record → IsWholeInput r text → IsOrLacks number (recorded_status (recorded_of text))
  -- a node ends as its script does over what link, clock and depot tell that they hold
  pub node : (id : ℕ) (own : Address) (text : List ℕ) (o : Outside) → command r ≡ Some (Node id own) → IsWholeInput r text → IsTold r o → IsOrLacks number (code (ending_status (node_run id own text o).ending))
