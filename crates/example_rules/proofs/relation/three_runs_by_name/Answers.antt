use Rattle.std.proofs.Common.{refl}
use Rattle.protocol.specs.Evaluate.{reached}
use Rattle.packetless_machine.specs.Evaluate.{ran_to}
use Rattle.example_rules.specs.Evaluate.{named_in}
use Rattle.example_rules.specs.Worlds as moving
use Rattle.example_rules.specs.Refusing as refusing
use Rattle.example_rules.specs.Ending as ending
use Rattle.example_rules.proofs.relation.three_runs_by_name.Goals as goal

pub returns-clause-moved_first : goal.returns-clause-moved_first
unfolding named_in
returns-clause-moved_first c = refl

pub returns-clause-moved_second : goal.returns-clause-moved_second
unfolding named_in reached ran_to moving.world_1 moving.machine_1
returns-clause-moved_second c = refl

pub returns-clause-moved_third : goal.returns-clause-moved_third
unfolding named_in reached ran_to moving.world_1 moving.machine_1 moving.world_2 moving.machine_2
returns-clause-moved_third c = refl

pub returns-clause-moved_fourth : goal.returns-clause-moved_fourth
unfolding named_in reached ran_to moving.world_1 moving.machine_1 moving.world_2 moving.machine_2 moving.world_3 moving.machine_3
returns-clause-moved_fourth c = refl

pub returns-clause-moved_fifth : goal.returns-clause-moved_fifth
unfolding named_in reached ran_to moving.world_1 moving.machine_1 moving.world_2 moving.machine_2 moving.world_3 moving.machine_3 moving.world_4 moving.machine_4
returns-clause-moved_fifth c = refl

pub returns-clause-refused_first : goal.returns-clause-refused_first
unfolding named_in
returns-clause-refused_first c = refl

pub returns-clause-refused_second : goal.returns-clause-refused_second
unfolding named_in reached ran_to refusing.world_1 refusing.machine_1
returns-clause-refused_second c = refl

pub returns-clause-refused_third : goal.returns-clause-refused_third
unfolding named_in reached ran_to refusing.world_1 refusing.machine_1 refusing.world_2 refusing.machine_2
returns-clause-refused_third c = refl

pub returns-clause-refused_fourth : goal.returns-clause-refused_fourth
unfolding named_in reached ran_to refusing.world_1 refusing.machine_1 refusing.world_2 refusing.machine_2 refusing.world_3 refusing.machine_3
returns-clause-refused_fourth c = refl

pub returns-clause-refused_fifth : goal.returns-clause-refused_fifth
unfolding named_in reached ran_to refusing.world_1 refusing.machine_1 refusing.world_2 refusing.machine_2 refusing.world_3 refusing.machine_3 refusing.world_4 refusing.machine_4
returns-clause-refused_fifth c = refl

pub returns-clause-ended_first : goal.returns-clause-ended_first
unfolding named_in
returns-clause-ended_first c = refl

pub returns-clause-ended_second : goal.returns-clause-ended_second
unfolding named_in reached ran_to ending.world_1 ending.machine_1
returns-clause-ended_second c = refl

pub returns-clause-ended_third : goal.returns-clause-ended_third
unfolding named_in reached ran_to ending.world_1 ending.machine_1 ending.world_2 ending.machine_2
returns-clause-ended_third c = refl

pub returns-clause-ended_fourth : goal.returns-clause-ended_fourth
unfolding named_in reached ran_to ending.world_1 ending.machine_1 ending.world_2 ending.machine_2 ending.world_3 ending.machine_3
returns-clause-ended_fourth c = refl

pub returns-clause-ended_fifth : goal.returns-clause-ended_fifth
unfolding named_in reached ran_to ending.world_1 ending.machine_1 ending.world_2 ending.machine_2 ending.world_3 ending.machine_3 ending.world_4 ending.machine_4
returns-clause-ended_fifth c = refl
