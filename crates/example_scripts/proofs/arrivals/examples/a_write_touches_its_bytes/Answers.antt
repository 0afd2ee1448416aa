use Rattle.std.specs.Prelude.{refl}
use Rattle.example_scripts.specs.SaidArrivals.{touched}
use Rattle.example_scripts.proofs.arrivals.examples.a_write_touches_its_bytes.Goals as goal

pub returns-clause-whole : goal.returns-clause-whole
unfolding touched
returns-clause-whole c = refl

pub returns-clause-longer : goal.returns-clause-longer
unfolding touched
returns-clause-longer c = refl

pub returns-clause-ahead : goal.returns-clause-ahead
unfolding touched
returns-clause-ahead c = refl

pub returns-clause-cut : goal.returns-clause-cut
unfolding touched
returns-clause-cut c = refl

pub returns-clause-key : goal.returns-clause-key
unfolding touched
returns-clause-key c = refl

pub returns-clause-past : goal.returns-clause-past
unfolding touched
returns-clause-past c = refl

pub returns-clause-another : goal.returns-clause-another
unfolding touched
returns-clause-another c = refl
