use Rattle.std.proofs.Common.{rules}
use Rattle.protocol.specs.Dumps.{within}
use Rattle.dump_reader.proofs.Latched.{kept}
use Rattle.dump_reader.proofs.fields.Fields.u16_within.Goals as goal

pub returns : goal.returns
returns c = kept (within c.args.low c.args.high) c.u16-n.ensures c.keep.ensures (search rules)
