use Rattle.std.proofs.Common.{◌≡◌}
use Rattle.crossbeam_queue.specs.Passes.{view, IsPassOf}
use Rattle.completion_fanout.specs.Rule.{taker_share}
use Rattle.completion_fanout.proofs.serving.consume.Given as goal

abbrev pub invariant-loop : goal.invariant-loop
invariant-loop g l = IsPassOf l.queue l.pass × (view l.pass ≡ taker_share l.taken.items 0)
