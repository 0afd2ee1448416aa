-- What the last line of a run is.
use Rattle.std.specs.Prelude.{ℕ, ◌≢◌, List, []}
use Rattle.run_traces.specs.declared.trace_audit.verdicts.Verdict.TheVariants as verdict
use Rattle.program_rules.specs.Ends as ends
use Rattle.program_rules.specs.Ends.{Status}
use Rattle.program_rules.specs.Texts as text
use Rattle.commands.specs.declared.stop.Stop.{Stop}
use Rattle.commands.specs.declared.stop.Stop.TheVariants as stop

-- the last line of a run that stops, where it has one
abbrev pub last_line : Stop → List ℕ
last_line stop.Usage = text.usage_line
last_line (stop.BadLine line column why) = text.bad_line_line (record { number = line; offence = record { column = column; why = why } })
last_line (stop.BadDump place why) = text.bad_dump_line place why
last_line stop.ReadFault = []
last_line stop.WriteFault = []
last_line stop.LinkFault = text.link_line
last_line stop.DepotFault = text.depot_line
last_line stop.OutOfMemory = text.memory_line
last_line stop.TooLong = text.long_line
last_line (stop.Missing name) = text.missing_line name
last_line (stop.Illegal line why) = text.verdict_line (verdict.Illegal line why)
last_line stop.NotEmptied = []

-- it has one
pub record HasLastLine (x : Stop) : Type 0 where
  pub read : x ≢ stop.ReadFault
  pub write : x ≢ stop.WriteFault

-- the status of it
abbrev pub status : Stop → Status
status stop.Usage = ends.WrongWords
status (stop.BadLine line column why) = ends.BadInput
status (stop.BadDump place why) = ends.BadInput
status stop.ReadFault = ends.Unread
status stop.WriteFault = ends.Unwritten
status stop.LinkFault = ends.NoLink
status stop.DepotFault = ends.NoDepot
status stop.OutOfMemory = ends.NoMemory
status stop.TooLong = ends.TooLong
status (stop.Missing name) = ends.NotHeld
status (stop.Illegal line why) = ends.NotLegal
status stop.NotEmptied = ends.NotEmptied
