use Rattle.law_simulation.proofs.runs.Table.{all_taken}
use Rattle.law_simulation.proofs.runs.datagrams_are_taken.Goals as goal

pub returns : goal.returns
returns c = all_taken (record {
  acks = c.acks_are_taken.ensures;
  sequence_naks = c.sequence_naks_are_taken.ensures;
  refusals = c.refusals_are_taken.ensures;
  receiver_not_ready = c.receiver_not_ready_is_taken.ensures;
  read_responses = c.read_responses_are_taken.ensures;
  atomic_responses = c.atomic_responses_are_taken.ensures;
  stopped = c.messages_are_taken.ensures.stopped;
  resumes = c.messages_are_taken.ensures.resumes;
  resume_acks = c.messages_are_taken.ensures.acks;
  husks = c.husks_answer.ensures;
}) c.requests_are_taken.ensures
