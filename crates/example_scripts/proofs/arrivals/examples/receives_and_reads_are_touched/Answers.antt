use Rattle.std.specs.Prelude.{refl}
use Rattle.example_scripts.specs.SaidArrivals.{touched}
use Rattle.example_scripts.proofs.arrivals.examples.receives_and_reads_are_touched.Goals as goal

pub returns-clause-send : goal.returns-clause-send
unfolding touched
returns-clause-send c = refl

pub returns-clause-atomic : goal.returns-clause-atomic
unfolding touched
returns-clause-atomic c = refl

pub returns-clause-acknowledge : goal.returns-clause-acknowledge
unfolding touched
returns-clause-acknowledge c = refl

pub returns-clause-response : goal.returns-clause-response
unfolding touched
returns-clause-response c = refl

pub returns-clause-cut : goal.returns-clause-cut
unfolding touched
returns-clause-cut c = refl
