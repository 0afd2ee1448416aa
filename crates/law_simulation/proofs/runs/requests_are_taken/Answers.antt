use Rattle.law_simulation.proofs.runs.Requests.{requests_taken}
use Rattle.law_simulation.proofs.runs.requests_are_taken.Goals as goal

pub returns : goal.returns
returns c = requests_taken (record {
  paused = c.early_requests_are_taken.ensures.paused;
  ahead = c.early_requests_are_taken.ensures.ahead;
  messages = c.early_requests_are_taken.ensures.messages;
  rereads = c.rereads_are_taken.ensures;
  old_atomics = c.repeated_atomics_are_answered.ensures;
  writes = c.writes_are_taken.ensures.run;
  sends = c.sends_are_taken.ensures.run;
  atomics = c.atomics_are_taken.ensures;
  reads = c.reads_have_their_turn.ensures;
  idle = c.idle_turns_are_taken.ensures;
})
