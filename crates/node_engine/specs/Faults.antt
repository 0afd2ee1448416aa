-- What stops a run where a dump is not read.
use Rattle.dump_reader.specs.declared.fault.DumpFault.{DumpFault}
use Rattle.dump_reader.specs.declared.fault.DumpFault.TheVariants as dump_fault
use Rattle.node_engine.specs.declared.faults.NodeFault.{NodeFault}
use Rattle.node_engine.specs.declared.faults.NodeFault.TheVariants as fault

-- the fault of a node for the fault of a dump
abbrev pub fault_of_dump : DumpFault → NodeFault
fault_of_dump (dump_fault.BadDump place why) = fault.BadDump place why
fault_of_dump dump_fault.OutOfMemory = fault.OutOfMemory
