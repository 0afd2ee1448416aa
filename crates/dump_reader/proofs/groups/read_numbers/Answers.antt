use Rattle.std.proofs.Common.{refl, nat_le}
use Rattle.std.specs.Prelude.{◌&&◌}
use Rattle.dump_reader.specs.Groups.{numbers_field}
use Rattle.protocol.specs.Dumps.{follows, is_below_limit}
use Rattle.dump_reader.proofs.Latched.{first, next, given, kept}
use Rattle.dump_reader.proofs.groups.read_numbers.Goals as goal

pub returns : goal.returns
unfolding numbers_field
returns c =
    first _ c.u64_below-first.ensures
    (next _ (kept (λ n. is_below_limit n && nat_le c.u64_below-first.result n) c.u64-una.ensures c.keep.ensures c.follows_number.ensures)
    (next _ (kept (follows c.args.ended c.u64-una.result) c.u64-next.ensures c.keep-2.ensures c.follows_number-2.ensures)
    (next _ (kept (follows c.args.ended c.u64-next.result) c.u64-top.ensures c.keep-3.ensures c.follows_number-3.ensures)
    (given refl))))
