use Rattle.std.proofs.Common.{refl, nat_le, not, ◌+◌}
use Rattle.std.specs.Prelude.{◌==◌, ◌&&◌, ◌^◌}
use Rattle.dump_reader.specs.Groups.{region_head_field}
use Rattle.protocol.specs.Lawful.{is_local_key}
use Rattle.protocol.specs.declared.images.RegionImage.{RegionImage}
use Rattle.rdma_types.specs.Lists.{some}
use Rattle.dump_reader.proofs.Latched.{group, first, next, given, kept, parsed_then, stopped}
use Rattle.dump_reader.proofs.groups.read_region.Goals as goal

pub returns : goal.returns
unfolding region_head_field
returns c =
    parsed_then _ _ _ c.in_ok-name.ensures (group _ _ c.of-fields.ensures
    (first _ c.u16_below-domain.ensures
    (next _ (kept (λ n. nat_le n (2 ^ 63)) c.u64-base.ensures c.keep.ensures refl)
    (next _ c.u32_within-length.ensures
    (next _ c.u8_up_to-rights.ensures
    (next _ (kept (λ n. is_local_key n && not (some (λ (r : RegionImage). r.keys.local == n) c.args.seen.now)) c.u32-local.ensures c.keep-2.ensures c.is_new_key.ensures)
    (next _ (kept (λ n. n == c.u32-local.result + 1) c.u32-remote.ensures c.keep-3.ensures refl)
    (given refl))))))) c.end.ensures)

pub returns-in_err-name : goal.returns-in_err-name
unfolding region_head_field
returns-in_err-name c = stopped _ c.from_residual.result c.from_residual.ensures.1 c.in_err-name.ensures
