use Rattle.std.proofs.Common.{◌≡◌, length}
use Rattle.crossbeam_queue.specs.Passes.{view, IsPassOf}
use Rattle.completion_fanout.specs.Rule.{writer_share}
use Rattle.completion_fanout.proofs.feeding.feed.Given as goal

abbrev pub invariant-loop-place : goal.invariant-loop-place
invariant-loop-place g l = record {
  pass : IsPassOf l.queue l.pass;
  put : view l.pass ≡ writer_share (g.S.Source.given l.source) 0;
  count : length (g.S.Source.given l.source) ≡ l.place;
}
