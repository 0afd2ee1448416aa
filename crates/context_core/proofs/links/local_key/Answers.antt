use Rattle.context_core.proofs.LinksFromImage.{key-of}
use Rattle.context_core.proofs.links.local_key.Goals as goal

pub returns : goal.returns
returns c = key-of c.args.regions.now c.args.place c.index-regions-place.result c.requires
