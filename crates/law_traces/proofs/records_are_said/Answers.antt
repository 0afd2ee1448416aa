use Rattle.law_traces.proofs.Said.{records_are_said}
use Rattle.law_traces.proofs.records_are_said.Goals as goal

pub returns : goal.returns
returns c = records_are_said (record {
  words = record {
    number = c.what_is_printed_reads_back.ensures.number;
    object = c.what_is_printed_reads_back.ensures.object;
    key = c.what_is_printed_reads_back.ensures.key;
    queue_pair = c.what_is_printed_reads_back.ensures.queue_pair;
    bytes = c.what_is_printed_reads_back.ensures.bytes;
    one_way = c.a_number_is_spelled_in_one_way.ensures;
  };
  range = c.lines_are_in_range.ensures.read;
  lawful = c.lines_are_in_range.ensures.lawful;
  start = c.law_holds.ensures.start;
  follow = c.steps_are_named.ensures.events;
  traces = c.audits_are_right.ensures.traces;
})
