-- What a run of `node` leaves: how far the plan of its script was made, and its last line.
use Rattle.std.specs.Prelude.{ℕ, ◌≡◌, ◌≤◌, ◌⊎◌, ◌+◌, ◌++◌, List, length}
use Rattle.rdma_types.specs.declared.names.Name.{Name}
use Rattle.rdma_types.specs.declared.requests.Address.{Address}
use Rattle.protocol.specs.declared.dumps.DumpWhy.{DumpWhy}
use Rattle.host_ports.specs.Streams.{Puts, TakesCount}
use Rattle.law_headline.specs.Script.{BadLine}
use Rattle.node_rules.specs.Plan as plan
use Rattle.node_rules.specs.Plan.{Plan}
use Rattle.node_rules.specs.Script.{node_plan}
use Rattle.node_rules.specs.Stops.{DepotFailed, HasEnded, LinkFailed, MemoryRanOut, OutputFailed, Rises, StopsAt}
use Rattle.node_rules.specs.Told.{Contents}
use Rattle.program_rules.specs.Runs.{ReadsAll, Run, TakesFew, WritesLine, input_limit}
use Rattle.program_rules.specs.Texts.{bad_dump_line, bad_line_line, depot_line, link_line, long_line, memory_line, missing_line}

-- the whole input was read, and then calls of the plan of its script were made, and this holds of the plan that is left, of what
-- they left, and of what the run came to
pub record ComesTo (r : Run) (id : ℕ) (own : Address) (Stop : Plan → Contents → Contents → Type 0) (reached : Contents) : Type 0 where
  pub text : List ℕ
  pub read : ReadsAll r text
  pub short : length text ≤ input_limit
  pub stopped : StopsAt Stop (node_plan id own text) r.before reached

-- .. and there its last line was written
pub record EndsThere (r : Run) (id : ℕ) (own : Address) (Stop : Plan → Contents → Contents → Type 0) (line : List ℕ) : Type 0 where
  pub reached : Contents
  pub comes : ComesTo r id own Stop reached
  pub last : WritesLine line reached r.after

-- the lines before the first bad one are done
pub record EndsAtBadLine (r : Run) (id : ℕ) (own : Address) : Type 0 where
  pub bad : BadLine
  pub ends : EndsThere r id own (HasEnded (plan.BadLine bad.number bad.offence)) (bad_line_line bad)

-- the lines before one whose file in the depot is no dump are done
pub record EndsAtBadDump (r : Run) (id : ℕ) (own : Address) : Type 0 where
  pub place : ℕ
  pub why : DumpWhy
  pub ends : EndsThere r id own (HasEnded (plan.BadDump place why)) (bad_dump_line place why)

-- the lines before one whose file the depot does not hold are done
pub record EndsAtMissing (r : Run) (id : ℕ) (own : Address) : Type 0 where
  pub name : Name
  pub ends : EndsThere r id own (HasEnded (plan.Missing name)) (missing_line name)

-- memory ran out before the input was read: no more of it was taken than the limit, and no call of the plan was made
pub record EndsBeforeReading (r : Run) : Type 0 where
  pub few : TakesFew r
  pub last : WritesLine memory_line r.before r.after

-- memory ran out
abbrev pub EndsWithoutMemory : Run → ℕ → Address → Type 0
EndsWithoutMemory r id own = EndsThere r id own MemoryRanOut memory_line ⊎ EndsBeforeReading r

-- ---- a last line that is cut off

-- why a run stops that has begun its plan
pub data NodeStop : Type 0 where
  AtBadLine : (bad : BadLine) → NodeStop
  AtBadDump : (place : ℕ) → (why : DumpWhy) → NodeStop
  AtMissing : (name : Name) → NodeStop
  WithoutLink : NodeStop
  WithoutDepot : NodeStop
  WithoutMemory : NodeStop

-- what holds there of the plan that is left, and of the contents before and after
abbrev pub stops_so : NodeStop → Plan → Contents → Contents → Type 0
stops_so (AtBadLine bad) = HasEnded (plan.BadLine bad.number bad.offence)
stops_so (AtBadDump place why) = HasEnded (plan.BadDump place why)
stops_so (AtMissing name) = HasEnded (plan.Missing name)
stops_so WithoutLink = LinkFailed
stops_so WithoutDepot = DepotFailed
stops_so WithoutMemory = MemoryRanOut

-- its last line
abbrev pub line_of_stop : NodeStop → List ℕ
line_of_stop (AtBadLine bad) = bad_line_line bad
line_of_stop (AtBadDump place why) = bad_dump_line place why
line_of_stop (AtMissing name) = missing_line name
line_of_stop WithoutLink = link_line
line_of_stop WithoutDepot = depot_line
line_of_stop WithoutMemory = memory_line

-- a prefix of the line was written, and a fault of the output was counted; all else is as it was
pub record CutsLine (line : List ℕ) (before after : Contents) : Type 0 where
  pub prefix : List ℕ
  pub rest : List ℕ
  pub splits : line ≡ prefix ++ rest
  pub written : Puts before.written after.written prefix
  pub counted : Rises before.faults.output after.faults.output
  pub others : after ≡ record before { written = after.written; faults = record before.faults { output = after.faults.output } }

-- calls of the plan were made up to where it stops, each answer was written whole, and the last line was cut off
pub record IsStopCut (r : Run) (id : ℕ) (own : Address) : Type 0 where
  pub why : NodeStop
  pub reached : Contents
  pub comes : ComesTo r id own (stops_so why) reached
  pub last : CutsLine (line_of_stop why) reached r.after

-- no call of the plan was made, since memory ran out or the input is too long, and the last line was cut off
abbrev pub IsStartCut : Run → Type 0
IsStartCut r = (TakesFew r × CutsLine memory_line r.before r.after) ⊎ (TakesCount r.left r.left_after (input_limit + 1) × CutsLine long_line r.before r.after)

-- a write failed: an answer was cut off, and no call was made behind it; or all answers were written, and the last line was cut off
abbrev pub IsNodeUnwritten : Run → ℕ → Address → Type 0
IsNodeUnwritten r id own = ComesTo r id own OutputFailed r.after ⊎ IsStopCut r id own ⊎ IsStartCut r
