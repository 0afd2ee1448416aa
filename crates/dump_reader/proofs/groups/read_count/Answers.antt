use Rattle.std.proofs.Common.{refl, nat_le}
use Rattle.dump_reader.proofs.Latched.{group, kept}
use Rattle.dump_reader.proofs.groups.read_count.Goals as goal

pub returns : goal.returns
returns c = group _ _ c.of-fields.ensures (kept (λ n. nat_le n c.args.limit) c.u16-count.ensures c.keep_or.ensures refl) c.end.ensures
