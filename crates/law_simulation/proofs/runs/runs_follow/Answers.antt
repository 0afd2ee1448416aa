use Rattle.law_simulation.proofs.runs.Runs.{run_follows, heard_legal}
use Rattle.law_simulation.proofs.runs.runs_follow.Goals as goal

pub returns-clause-run : goal.returns-clause-run
returns-clause-run c = run_follows

pub returns-clause-heard : goal.returns-clause-heard
returns-clause-heard c = heard_legal
