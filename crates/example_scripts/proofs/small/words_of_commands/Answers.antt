use Rattle.std.specs.Prelude.{refl}
use Rattle.script_lang.specs.Texts.{address_of, cut_at, host_of, name_of, number_in, part_of}
use Rattle.program_rules.specs.Commands.{command_of, placed_of}
use Rattle.example_scripts.proofs.small.words_of_commands.Goals as goal

pub returns-clause-play : goal.returns-clause-play
unfolding command_of placed_of number_in name_of
returns-clause-play c = refl

pub returns-clause-bulk : goal.returns-clause-bulk
unfolding command_of placed_of number_in name_of
returns-clause-bulk c = refl

pub returns-clause-show_dump : goal.returns-clause-show_dump
unfolding command_of placed_of number_in name_of
returns-clause-show_dump c = refl

pub returns-clause-none : goal.returns-clause-none
unfolding command_of placed_of number_in name_of
returns-clause-none c = refl

pub returns-clause-too_many : goal.returns-clause-too_many
unfolding command_of placed_of number_in name_of
returns-clause-too_many c = refl

pub returns-clause-more : goal.returns-clause-more
unfolding command_of placed_of number_in name_of
returns-clause-more c = refl

pub returns-clause-evacuate : goal.returns-clause-evacuate
unfolding command_of placed_of number_in name_of
returns-clause-evacuate c = refl

pub returns-clause-onto_itself : goal.returns-clause-onto_itself
unfolding command_of placed_of number_in name_of
returns-clause-onto_itself c = refl

pub returns-clause-audit : goal.returns-clause-audit
unfolding command_of placed_of number_in name_of address_of host_of part_of cut_at
returns-clause-audit c = refl

pub returns-clause-recording : goal.returns-clause-recording
unfolding command_of placed_of number_in name_of address_of host_of part_of cut_at
returns-clause-recording c = refl

pub returns-clause-node : goal.returns-clause-node
unfolding command_of placed_of number_in name_of address_of host_of part_of cut_at
returns-clause-node c = refl

pub returns-clause-no_device : goal.returns-clause-no_device
unfolding command_of placed_of number_in name_of address_of host_of part_of cut_at
returns-clause-no_device c = refl

pub returns-clause-no_address : goal.returns-clause-no_address
unfolding command_of placed_of number_in name_of address_of host_of part_of cut_at
returns-clause-no_address c = refl
