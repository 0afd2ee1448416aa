-- The last line of a run that is not done, and the words of reasons in it (this project's choice).
use Rattle.std.specs.Prelude.{ℕ, List, [], ◌∷◌, ◌++◌, codes, flat_map, Option, Some, None}
use Rattle.std.specs.Fmt.{decimal}
use Rattle.rdma_types.specs.declared.names.Name.{Name}
use Rattle.protocol.specs.declared.dumps.DumpWhy.{DumpWhy}
use Rattle.protocol.specs.declared.dumps.DumpWhy.TheVariants as dump_why
use Rattle.evac_rules.specs.declared.moves.Shifted.{Shifted}
use Rattle.evac_rules.specs.declared.moves.StayReason.{StayReason}
use Rattle.evac_rules.specs.declared.moves.StayReason.TheVariants as stay_why
use Rattle.evac_rules.specs.Evacuation.{Evacuation, Fault, NoSuch, Stays}
use Rattle.script_lang.specs.declared.lines.LineWhy.{LineWhy}
use Rattle.script_lang.specs.declared.lines.LineWhy.TheVariants as line_why
use Rattle.script_lang.specs.Printed.{line}
use Rattle.run_traces.specs.declared.trace_audit.verdicts.AuditWhy.{AuditWhy}
use Rattle.run_traces.specs.declared.trace_audit.verdicts.AuditWhy.TheVariants as audit_why
use Rattle.run_traces.specs.declared.trace_audit.verdicts.Verdict.{Verdict}
use Rattle.run_traces.specs.declared.trace_audit.verdicts.Verdict.TheVariants as verdict
use Rattle.law_headline.specs.Script.{BadLine}

-- why a line is in no form
abbrev pub line_why_text : LineWhy → List ℕ
line_why_text line_why.Long = codes "long"
line_why_text line_why.Ascii = codes "ascii"
line_why_text line_why.Word = codes "word"
line_why_text line_why.Missing = codes "missing"
line_why_text line_why.Name = codes "name"
line_why_text line_why.Number = codes "number"
line_why_text line_why.Hex = codes "hex"
line_why_text line_why.Rights = codes "rights"
line_why_text line_why.Address = codes "address"
line_why_text line_why.BadOption = codes "option"
line_why_text line_why.Extra = codes "extra"

-- why bytes are no dump
abbrev pub dump_why_text : DumpWhy → List ℕ
dump_why_text dump_why.Short = codes "short"
dump_why_text dump_why.Magic = codes "magic"
dump_why_text dump_why.Version = codes "version"
dump_why_text dump_why.Name = codes "name"
dump_why_text dump_why.Count = codes "count"
dump_why_text dump_why.Field = codes "field"
dump_why_text dump_why.Trailing = codes "trailing"

-- the words are of no command
abbrev pub usage_line : List ℕ
usage_line = line (codes "usage") []

-- `bad line` number `column` column reason
abbrev pub bad_line_line : BadLine → List ℕ
bad_line_line b = line (codes "bad") (codes "line" ∷ decimal b.number ∷ codes "column" ∷ decimal b.offence.column ∷ line_why_text b.offence.why ∷ [])

-- `bad dump` place reason
abbrev pub bad_dump_line : ℕ → DumpWhy → List ℕ
bad_dump_line place why = line (codes "bad") (codes "dump" ∷ decimal place ∷ dump_why_text why ∷ [])

-- a fault of the link
abbrev pub link_line : List ℕ
link_line = line (codes "link") (codes "fault" ∷ [])

-- a fault of the depot
abbrev pub depot_line : List ℕ
depot_line = line (codes "depot") (codes "fault" ∷ [])

-- it was out of memory
abbrev pub memory_line : List ℕ
memory_line = line (codes "out") (codes "of" ∷ codes "memory" ∷ [])

-- the input is too long
abbrev pub long_line : List ℕ
long_line = line (codes "input") (codes "too" ∷ codes "long" ∷ [])

-- the depot holds nothing under a name
abbrev pub missing_line : Name → List ℕ
missing_line name = line (codes "missing") (name ∷ [])

-- ---- emptying a device

-- `moved` name id
abbrev pub moved_line : Shifted → List ℕ
moved_line x = line (codes "moved") (x.context ∷ decimal x.target ∷ [])

-- why a context stays
abbrev pub stay_why_text : StayReason → List ℕ
stay_why_text stay_why.PeerMoving = codes "peermoving"
stay_why_text stay_why.TooMany = codes "toomany"
stay_why_text stay_why.NoTarget = codes "notarget"

-- the last line: `empty`, `refused NoSuch`, or `stays` name reason
abbrev pub emptied_line : Option Fault → List ℕ
emptied_line None = line (codes "empty") []
emptied_line (Some NoSuch) = line (codes "refused") (codes "NoSuch" ∷ [])
emptied_line (Some (Stays n y)) = line (codes "stays") (n ∷ stay_why_text y ∷ [])

-- a line for each context that moved, and the last line
abbrev pub evacuation_text : Evacuation → List ℕ
evacuation_text s = flat_map moved_line s.moved ++ emptied_line s.fault

-- ---- audits

-- why a trace is no run of the machine
abbrev pub audit_why_text : AuditWhy → List ℕ
audit_why_text audit_why.Step = codes "step"
audit_why_text audit_why.Answer = codes "answer"

-- `legal` verbs inner, or `illegal` line reason
abbrev pub verdict_line : Verdict → List ℕ
verdict_line (verdict.Legal verbs inner) = line (codes "legal") (decimal verbs ∷ decimal inner ∷ [])
verdict_line (verdict.Illegal number why) = line (codes "illegal") (decimal number ∷ audit_why_text why ∷ [])
