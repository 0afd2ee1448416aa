use Rattle.context_core.proofs.ImageParts.{link-is}
use Rattle.context_core.proofs.image_links.link_image.Goals as goal

pub returns : goal.returns
returns c = λ pool. link-is pool c.args.regions.now c.args.link.now c.parts-numbers.result c.parts-parts.result c.is_resuming.result c.progress.result c.in_ok-replies.field-0 c.parts-numbers.ensures.parts c.parts-parts.ensures.parts c.is_resuming.ensures (c.progress.ensures pool) c.in_ok-replies.ensures
