use Rattle.law_traces.proofs.records_are_whole.Goals as goal

pub returns : goal.returns
returns c = λ script ls read short. record {
  said = c.records_are_said.ensures script ls read short;
  heard = c.all_is_heard.ensures ls;
  legal = c.records_are_legal.ensures script ls read;
}
