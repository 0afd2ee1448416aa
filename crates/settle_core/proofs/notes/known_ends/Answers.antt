use Rattle.settle_core.proofs.Noted.{listed_result, live_result}
use Rattle.settle_core.proofs.notes.known_ends.Goals as goal

pub returns-in-None-clause-live : goal.returns-in-None-clause-live
returns-in-None-clause-live c = live_result c.live_ends.result c.args.world.now _ c.live_ends.ensures

pub returns-in-None-clause-marked : goal.returns-in-None-clause-marked
returns-in-None-clause-marked c = listed_result c.live_ends.result c.args.world.now _ c.live_ends.ensures
