use Rattle.std.proofs.Common.{◌≡◌, ◌<◌, ◌≤◌, []}
use Rattle.crossbeam_queue.specs.Passes.{view, IsPassOf}
use Rattle.completion_fanout.specs.Rule.{left_share}
use Rattle.completion_fanout.proofs.finishing.take_left.Given as goal

abbrev pub invariant-loop : goal.invariant-loop
invariant-loop g l = record {
  pass : IsPassOf l.queue l.root;
  knows : view l.root ≡ left_share (view l.initial.root) l.left.items (view l.root).ended;
  more : (view l.initial.root).ended ≤ (view l.root).ended;
  none : 0 < (view l.initial.root).ended → l.left.items ≡ [];
}
