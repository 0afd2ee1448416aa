use Rattle.std.proofs.Common.{◌∙◌}
use Rattle.responder.proofs.Granted.{part-written}
use Rattle.responder.proofs.places.write.Goals as goal

pub returns-clause-written : goal.returns-clause-written
returns-clause-written c = c.store_part.ensures.regions ∙ part-written c.args.pool.now c.args.regions.now c.args.spot c.args.done c.args.bytes.now c.are_keyed.ensures c.requires.place c.requires.fits
