use Rattle.end_completions.proofs.Given.{gives-one}
use Rattle.end_completions.proofs.telling.tell_one.Goals as goal

pub returns-clause-pool : goal.returns-clause-pool
returns-clause-pool c = gives-one c.args.pool.now c.give.new.self c.args.p c.give.ensures.puts c.give.ensures.free
