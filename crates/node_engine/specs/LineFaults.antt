-- What stops a run where a line is not read.
use Rattle.std.specs.Prelude.{ℕ}
use Rattle.node_engine.specs.declared.faults.NodeFault.{NodeFault}
use Rattle.node_engine.specs.declared.faults.NodeFault.TheVariants as fault
use Rattle.script_lang.specs.declared.lines.LineFault.{LineFault}
use Rattle.script_lang.specs.declared.lines.LineFault.TheVariants as line_fault

-- the fault of a node for a line of that number that is not read
abbrev pub fault_at_line : ℕ → LineFault → NodeFault
fault_at_line number (line_fault.Bad column why) = fault.BadLine number column why
fault_at_line number line_fault.OutOfMemory = fault.OutOfMemory
