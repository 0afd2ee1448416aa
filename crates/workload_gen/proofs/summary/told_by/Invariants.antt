use Rattle.std.proofs.Common.{◌≡◌, ◌+◌, ◌≤◌, length, count_by, codes}
use Rattle.workload_gen.specs.Summary.{is_completion, is_success, left_in, lines_of}
use Rattle.workload_gen.proofs.summary.told_by.Given as goal

abbrev pub invariant-lines : goal.invariant-lines
invariant-lines l = record {
  room : l.tally.completions + length l.rest ≤ length l.initial.rest;
  success_room : l.tally.success + length l.rest ≤ length l.initial.rest;
  completions : l.tally.completions + count_by is_completion (lines_of l.rest) ≡ count_by is_completion (lines_of l.initial.rest);
  success : l.tally.success + count_by is_success (lines_of l.rest) ≡ count_by is_success (lines_of l.initial.rest);
  left : left_in l.tally.left.now (lines_of l.rest) ≡ left_in (codes "0") (lines_of l.initial.rest);
}

abbrev pub decreases-lines : goal.decreases-lines
decreases-lines l = length l.rest
