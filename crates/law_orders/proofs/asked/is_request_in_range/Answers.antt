use Rattle.std.proofs.Common.{arith, rules, ◌<◌, ◌^◌}
use Rattle.std.specs.Prelude.{IfSome}
use Rattle.law_orders.proofs.Askable.{request_typed}
use Rattle.law_orders.proofs.asked.is_request_in_range.Goals as goal

pub returns : goal.returns
returns c =
    let imm : IfSome c.args.request.shape.imm (λ n. n < 2 ^ 32) = search rules in
    request_typed c.args.request _ (omega arith) (omega arith) (omega arith) (omega arith) imm c.has_fields_of_kind.ensures
