use Rattle.std.proofs.Common.{nat_le, refl}
use Rattle.dump_reader.proofs.Latched.{kept}
use Rattle.dump_reader.proofs.fields.Fields.u8_up_to.Goals as goal

pub returns : goal.returns
returns c = kept (λ n. nat_le n c.args.most) c.u8-n.ensures c.keep.ensures refl
