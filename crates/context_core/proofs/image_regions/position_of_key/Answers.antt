use Rattle.std.proofs.Common.{sym, ◌∙◌}
use Rattle.context_core.proofs.ImagePositions.{key-found, key-missing}
use Rattle.context_core.proofs.image_regions.position_of_key.Goals as goal

pub returns-in-Some : goal.returns-in-Some
returns-in-Some c = λ pool. key-found pool c.args.key c.args.regions.now c.in-Some.place (sym c.in-Some.ensures.place)

pub returns-in-None : goal.returns-in-None
returns-in-None c = λ pool. c.len.ensures ∙ key-missing pool c.args.key c.args.regions.now (sym c.in-None.ensures.place)
