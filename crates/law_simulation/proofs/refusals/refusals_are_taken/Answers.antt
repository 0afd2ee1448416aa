use Rattle.law_simulation.proofs.refusals.Turns.{are_invalid, are_not_granted, are_too_long, are_dry}
use Rattle.law_simulation.proofs.refusals.refusals_are_taken.Goals as goal

pub returns-clause-invalid : goal.returns-clause-invalid
returns-clause-invalid c = are_invalid

pub returns-clause-access : goal.returns-clause-access
returns-clause-access c = are_not_granted

pub returns-clause-length : goal.returns-clause-length
returns-clause-length c = are_too_long

pub returns-clause-dry : goal.returns-clause-dry
returns-clause-dry c = are_dry
