use Rattle.std.proofs.Common.{rules, refl, nat_le}
use Rattle.protocol.specs.Dumps.{entry_field, is_status}
use Rattle.protocol.specs.Lawful.{is_number}
use Rattle.rdma_types.specs.Limits.{most_bytes}
use Rattle.dump_reader.proofs.Latched.{group, first, next, given, kept, plain}
use Rattle.dump_reader.proofs.groups.read_entry.Goals as goal

pub returns : goal.returns
unfolding entry_field
returns c =
    group _ _ c.of-fields.ensures
    (first _ (kept (is_number) c.u32-qp.ensures c.keep.ensures c.may_be_number.ensures)
    (next _ (plain c.u64-id.ensures)
    (next _ c.u8_up_to-kind.ensures
    (next _ (kept (is_status) c.u8-status.ensures c.keep-2.ensures c.may_be_status.ensures)
    (next _ (kept (λ n. nat_le n most_bytes) c.u32-length.ensures c.keep-3.ensures refl)
    (next _ c.u8_up_to-flag.ensures
    (next _ c.u32_if-imm.ensures
    (given (search rules))))))))) c.end.ensures
