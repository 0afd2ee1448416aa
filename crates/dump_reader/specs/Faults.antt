-- Faults of reading.
use Rattle.dump_reader.specs.declared.cursor.Offence.{Offence}
use Rattle.dump_reader.specs.declared.fault.DumpFault.{DumpFault}
use Rattle.dump_reader.specs.declared.fault.DumpFault.TheVariants.{BadDump}

-- the fault of an offence
abbrev pub fault_of : Offence → DumpFault
fault_of e = BadDump e.place e.why
