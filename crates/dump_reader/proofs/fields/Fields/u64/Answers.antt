use Rattle.std.proofs.Common.{rules, arith}
use Rattle.protocol.specs.Bytes.{big_number}
use Rattle.dump_reader.proofs.Latched.{number_took, number_stuck}
use Rattle.dump_reader.proofs.fields.Fields.u64.Goals as goal

pub returns-in-Some : goal.returns-in-Some
unfolding big_number
returns-in-Some c = number_took c.in-Some.ensures.some (search rules) (omega arith)

pub returns-in-None : goal.returns-in-None
returns-in-None c = number_stuck c.in-None.ensures.none
