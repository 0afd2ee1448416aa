use Rattle.std.proofs.Common.{sym, ◌∙◌}
use Rattle.context_core.proofs.ImagePositions.{name-found, name-missing}
use Rattle.context_core.proofs.image_regions.position_of.Goals as goal

pub returns-in-Some : goal.returns-in-Some
returns-in-Some c = name-found c.args.name c.args.names.now.keys c.in-Some.place (sym c.in-Some.ensures.index)

pub returns-in-None : goal.returns-in-None
returns-in-None c = c.len.ensures.len ∙ name-missing c.args.name c.args.names.now.keys (sym c.in-None.ensures.index)
