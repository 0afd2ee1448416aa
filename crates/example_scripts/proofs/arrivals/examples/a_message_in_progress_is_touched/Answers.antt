use Rattle.std.specs.Prelude.{refl}
use Rattle.example_scripts.specs.SaidArrivals.{touched}
use Rattle.example_scripts.proofs.arrivals.examples.a_message_in_progress_is_touched.Goals as goal

pub returns-clause-write : goal.returns-clause-write
unfolding touched
returns-clause-write c = refl

pub returns-clause-none : goal.returns-clause-none
unfolding touched
returns-clause-none c = refl
