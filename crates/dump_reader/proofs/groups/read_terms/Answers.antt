use Rattle.std.proofs.Common.{refl}
use Rattle.protocol.specs.Dumps.{terms_field, within}
use Rattle.rdma_types.specs.Limits.{is_mtu}
use Rattle.dump_reader.proofs.Latched.{first, next, given, kept}
use Rattle.dump_reader.proofs.groups.read_terms.Goals as goal

pub returns : goal.returns
unfolding terms_field
returns c =
    first _ (kept (is_mtu) c.u16-mtu.ensures c.keep.ensures c.may_be_mtu.ensures)
    (next _ c.u32_below-own_start.ensures
    (next _ c.u32_below-peer_start.ensures
    (next _ c.u8_up_to-retry.ensures
    (next _ c.u8_up_to-rnr.ensures
    (next _ (kept (within 1 16) c.u8-reads.ensures c.keep-2.ensures c.may_be_reads.ensures)
    (given refl))))))
