use Rattle.std.proofs.Common.{refl, nat_lt, nat_le, ◌+◌}
use Rattle.std.specs.Prelude.{◌==◌, ◌||◌, ◌&&◌}
use Rattle.dump_reader.specs.Groups.{regions_of}
use Rattle.protocol.specs.Dumps.{length_at, may_write_at}
use Rattle.protocol.specs.Lawful.{is_whole_pieces}
use Rattle.rdma_types.specs.Limits.{most_bytes}
use Rattle.dump_reader.proofs.Latched.{first, next, given, kept, plain}
use Rattle.dump_reader.proofs.places.read_write.Goals as goal

pub returns : goal.returns
returns c =
    first _ (kept (may_write_at (regions_of c.args.scope.now.domains.now c.args.scope.now.regions.now) c.args.scope.now.domain.now) c.u16-region.ensures c.keep.ensures c.may_write.ensures)
    (next _ (plain c.u32-off.ensures)
    (next _ (kept (λ n. nat_le n most_bytes && (n == 0 || nat_le (c.u32-off.result + n) (length_at (regions_of c.args.scope.now.domains.now c.args.scope.now.regions.now) c.u16-region.result))) c.u32-length.ensures c.keep-2.ensures c.fits_region.ensures)
    (next _ (kept (λ n. is_whole_pieces c.args.mtu n && nat_lt n c.u32-length.result) c.u32-done.ensures c.keep-3.ensures c.is_part.ensures)
    (given refl))))
