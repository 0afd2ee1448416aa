use Rattle.std.proofs.Common.{[]}
use Rattle.std.proofs.lemmas.List.Elements.{All-nil}
use Rattle.law_headline.specs.Does.{IsLineInRange}
use Rattle.law_traces.proofs.Legal.{all_legal}
use Rattle.law_traces.proofs.records_are_legal.Goals as goal

pub returns : goal.returns
returns c = all_legal (record {
  range = c.lines_are_in_range.ensures.read;
  follows = c.lines_are_followed.ensures.from_any;
  start = c.lines_are_followed.ensures.follows [] (All-nil IsLineInRange);
  back = record { key = c.what_is_printed_reads_back.ensures.key; queue_pair = c.what_is_printed_reads_back.ensures.queue_pair };
  wholes = c.answers_are_whole_lines.ensures;
  audits = c.audits_are_right.ensures.verdicts;
})
