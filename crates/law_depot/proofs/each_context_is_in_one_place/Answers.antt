use Rattle.law_depot.proofs.Places.{each_is_in_one_place, names_are_apart, only_death_loses}
use Rattle.law_depot.proofs.each_context_is_in_one_place.Goals as goal

pub returns-clause-place : goal.returns-clause-place
returns-clause-place c = each_is_in_one_place

pub returns-clause-names : goal.returns-clause-names
returns-clause-names c = names_are_apart

pub returns-clause-lost : goal.returns-clause-lost
returns-clause-lost c = only_death_loses
