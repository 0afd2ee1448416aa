use Rattle.context_core.proofs.RequestsFromImage.{alike-after}
use Rattle.context_core.proofs.requests.send_queue.Goals as goal

pub returns-in-Err-clause-err : goal.returns-in-Err-clause-err
returns-in-Err-clause-err c = alike-after c.args.pool.now c.put_requests.new.pool c.give_requests.new.pool c.put_requests.new.queue.items c.in-Err.ensures.taken c.give_requests.ensures.gives c.give_requests.ensures.gone
