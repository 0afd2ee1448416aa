use Rattle.std.proofs.Common.{refl, nat_le}
use Rattle.dump_reader.specs.Groups.{queue_head_field}
use Rattle.dump_reader.proofs.Latched.{group, first, next, given, kept, parsed_then, stopped}
use Rattle.dump_reader.proofs.groups.read_queue.Goals as goal

pub returns : goal.returns
unfolding queue_head_field
returns c =
    let rest = group _ _ c.of-fields.ensures
    (first _ c.u32_within-capacity.ensures
    (next _ (kept (λ n. nat_le n c.u32_within-capacity.result) c.u32-count.ensures c.keep_or.ensures refl)
    (given refl))) c.end.ensures in
    parsed_then _ _ _ c.in_ok-name.ensures (record { read = rest.read; passed = rest.passed })

pub returns-in_err-name : goal.returns-in_err-name
unfolding queue_head_field
returns-in_err-name c = stopped _ c.from_residual.result c.from_residual.ensures.1 c.in_err-name.ensures
