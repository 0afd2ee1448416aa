use Rattle.std.proofs.Common.{nat_lt, refl}
use Rattle.dump_reader.proofs.Latched.{kept}
use Rattle.dump_reader.proofs.fields.Fields.u64_below.Goals as goal

pub returns : goal.returns
returns c = kept (λ n. nat_lt n c.args.limit) c.u64-n.ensures c.keep.ensures refl
