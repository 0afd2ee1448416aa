use Rattle.std.proofs.Common.{◌≡◌, Some, rules}
use Rattle.std.specs.Prelude.{map, slice_get}
use Rattle.endpoint_core.proofs.Settled.{settle-set}
use Rattle.endpoint_core.proofs.queues.flush_receives_at.Goals as goal

pub returns-clause-queues : goal.returns-clause-queues
returns-clause-queues c =
    let at : slice_get (map (λ e. e.1) c.args.queues.now.entries) c.args.place ≡ Some c.unwrap-cq.result.now = search rules in
    settle-set c.args.queues.now.entries c.args.place _ _ c.unwrap-cq.result.now c.flush_receives.new.cq at c.flush_receives.ensures.queue
