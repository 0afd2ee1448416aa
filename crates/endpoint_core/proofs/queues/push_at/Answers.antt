use Rattle.std.proofs.Common.{◌≡◌, Some, rules}
use Rattle.std.specs.Prelude.{map, slice_get}
use Rattle.endpoint_core.proofs.Settled.{settle-set}
use Rattle.endpoint_core.proofs.queues.push_at.Goals as goal

pub returns : goal.returns
returns c =
    let at : slice_get (map (λ e. e.1) c.args.queues.now.entries) c.args.place ≡ Some c.unwrap-cq.result.now = search rules in
    settle-set c.args.queues.now.entries c.args.place _ _ c.unwrap-cq.result.now c.push.new.self at c.push.ensures
