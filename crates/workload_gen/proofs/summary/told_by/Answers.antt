use Rattle.std.proofs.Common.{◌≡◌, ◌+◌, Bool, if◌then◌else◌, ap, ◌∙◌}
use Rattle.workload_gen.proofs.Lines.{count_more, left_more, left_done, room_more}
use Rattle.workload_gen.specs.Summary.{is_completion, is_success}
use Rattle.workload_gen.proofs.summary.told_by.Goals as goal

pub lines-preserved : goal.lines-preserved
lines-preserved c =
    let cut = c.in-Some.ensures in
    let completions : c.counted.result ≡ (if is_completion c.in-Some.line.now then c.lines.tally.completions + 1 else c.lines.tally.completions) =
    c.counted.ensures ∙ ap (λ (b : Bool). if b then c.lines.tally.completions + 1 else c.lines.tally.completions) c.is_completion.ensures in
    let success : c.counted-in-Some.result ≡ (if is_success c.in-Some.line.now then c.lines.tally.success + 1 else c.lines.tally.success) =
    c.counted-in-Some.ensures ∙ ap (λ (b : Bool). if b then c.lines.tally.success + 1 else c.lines.tally.success) c.is_success.ensures in
    record {
      room = room_more (is_completion c.in-Some.line.now) _ _ _ c.lines.rest.now c.in-Some.more.now cut.0 cut.2 c.lines.invariant.room completions;
      success_room = room_more (is_success c.in-Some.line.now) _ _ _ c.lines.rest.now c.in-Some.more.now cut.0 cut.2 c.lines.invariant.success_room success;
      completions = count_more is_completion _ _ _ c.lines.rest.now c.in-Some.line.now c.in-Some.more.now cut.0 cut.1 cut.2 c.lines.invariant.completions completions;
      success = count_more is_success _ _ _ c.lines.rest.now c.in-Some.line.now c.in-Some.more.now cut.0 cut.1 cut.2 c.lines.invariant.success success;
      left = left_more _ _ _ c.lines.rest.now c.in-Some.line.now c.in-Some.more.now cut.0 cut.1 cut.2 c.lines.invariant.left c.newer-tally.ensures;
    }

pub returns-clause-left : goal.returns-clause-left
returns-clause-left c = left_done _ _ c.lines.rest.now c.in_default.ensures c.lines.invariant.left
