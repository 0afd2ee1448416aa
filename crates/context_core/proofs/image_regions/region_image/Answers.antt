use Rattle.std.proofs.Common.{sym, ◌∙◌}
use Rattle.std.specs.Prelude.{slice_get}
use Rattle.context_core.proofs.ImageParts.{region-is}
use Rattle.context_core.proofs.image_regions.region_image.Goals as goal

pub returns : goal.returns
returns c = region-is c.args.pool.now c.args.domains.now.keys (slice_get c.args.regions.now c.args.place) c.unwrap-head.result c.position_of.result c.in_ok-bytes.bytes (sym c.at.ensures ∙ c.unwrap-head.ensures) c.position_of.ensures c.in_ok-bytes.ensures
