use Rattle.law_settling.proofs.places.Placed.{is_found, of_one}
use Rattle.law_settling.proofs.places.places_are_of_one.Goals as goal

pub returns-clause-one : goal.returns-clause-one
returns-clause-one c = of_one

pub returns-clause-found : goal.returns-clause-found
returns-clause-found c = is_found
