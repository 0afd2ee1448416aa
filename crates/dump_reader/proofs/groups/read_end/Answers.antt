use Rattle.std.proofs.Common.{refl, not}
use Rattle.std.specs.Prelude.{◌==◌, ◌&&◌}
use Rattle.dump_reader.specs.Groups.{end_head_field}
use Rattle.protocol.specs.Lawful.{is_number}
use Rattle.protocol.specs.declared.images.EndImage.{EndImage}
use Rattle.rdma_types.specs.Lists.{some}
use Rattle.dump_reader.proofs.Latched.{group, first, next, given, kept, parsed_then, stopped}
use Rattle.dump_reader.proofs.groups.read_end.Goals as goal

pub returns : goal.returns
unfolding end_head_field
returns c =
    parsed_then _ _ _ c.in_ok-name.ensures (group _ _ c.of-fields.ensures
    (first _ (kept (λ n. is_number n && not (some (λ (e : EndImage). e.number == n) c.args.seen.now)) c.u32-number.ensures c.keep.ensures c.is_new_number.ensures)
    (next _ c.u16_below-domain.ensures
    (next _ c.u16_below-send_cq.ensures
    (next _ c.u16_below-recv_cq.ensures
    (next _ c.u16_within-send_depth.ensures
    (next _ c.u16_within-recv_depth.ensures
    (next _ c.u8_up_to-state.ensures
    (given refl)))))))) c.end.ensures)

pub returns-in_err-name : goal.returns-in_err-name
unfolding end_head_field
returns-in_err-name c = stopped _ c.from_residual.result c.from_residual.ensures.1 c.in_err-name.ensures
