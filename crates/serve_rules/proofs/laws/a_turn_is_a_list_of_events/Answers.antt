use Rattle.serve_rules.proofs.Leading.{a_turn_is_events}
use Rattle.serve_rules.proofs.laws.a_turn_is_a_list_of_events.Goals as goal

pub returns : goal.returns
returns c = a_turn_is_events
