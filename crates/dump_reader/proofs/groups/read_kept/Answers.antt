use Rattle.std.proofs.Common.{refl, nat_lt}
use Rattle.std.specs.Prelude.{◌&&◌}
use Rattle.protocol.specs.Dumps.{kept_field, rises}
use Rattle.dump_reader.proofs.Latched.{group, first, next, given, kept, plain}
use Rattle.dump_reader.proofs.groups.read_kept.Goals as goal

pub returns : goal.returns
unfolding kept_field
returns c =
    group _ _ c.of-fields.ensures
    (first _ (kept (λ n. rises c.args.seen.now n && nat_lt n c.args.expected) c.u64-number.ensures c.keep.ensures c.may_be_kept.ensures)
    (next _ (plain c.u64-old.ensures)
    (given refl))) c.end.ensures
