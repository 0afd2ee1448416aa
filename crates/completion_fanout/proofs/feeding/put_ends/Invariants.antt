use Rattle.std.proofs.Common.{◌≡◌}
use Rattle.crossbeam_queue.specs.Passes.{view, IsPassOf}
use Rattle.completion_fanout.specs.Rule.{writer_share}
use Rattle.completion_fanout.proofs.feeding.put_ends.Given as goal

abbrev pub invariant-loop : goal.invariant-loop
invariant-loop g l = IsPassOf l.queue l.pass × (view l.pass ≡ writer_share (view l.initial.pass).put l.counter)
