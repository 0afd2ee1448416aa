use Rattle.std.proofs.Common.{sym, subst, ap, ◌∙◌}
use Rattle.std.specs.Prelude.{map}
use Rattle.memory_keys.specs.Regions.{regions_of}
use Rattle.protocol.specs.Images.{queue_image, region_image}
use Rattle.endpoint_core.specs.Queues.{queues_of}
use Rattle.context_core.specs.Context.{Holding}
use Rattle.context_core.specs.Fits.{IsNarrow}
use Rattle.context_core.proofs.ImageParts.{context-is, narrow-held}
use Rattle.context_core.proofs.state.ContextState.image.Goals as goal

pub region_images-requires-clause-bounded : goal.region_images-requires-clause-bounded
region_images-requires-clause-bounded c = (subst IsNarrow (sym c.self.view_is) (narrow-held c.args.pool.now c.args.name c.args.self.now c.requires.fits)).domains

pub end_images-requires-clause-narrow : goal.end_images-requires-clause-narrow
end_images-requires-clause-narrow c = narrow-held c.args.pool.now c.args.name c.args.self.now c.requires.fits

pub returns : goal.returns
returns c =
    let pool = c.args.pool.now in
    context-is pool c.args.name c.args.self.now c.in_ok-names.field-0 c.in_ok-region_images.field-0 c.in_ok-queue_images.field-0 c.in_ok-end_images.field-0
    (c.in_ok-names.ensures ∙ ap (λ (h : Holding). h.domains) c.self.view_is)
    (c.in_ok-region_images.ensures ∙ ap (λ (h : Holding). map (region_image h.domains) (regions_of pool h.regions)) c.self.view_is)
    (c.in_ok-queue_images.ensures ∙ ap (λ (h : Holding). map queue_image (queues_of h.queues)) c.self.view_is)
    (c.in_ok-end_images.ensures c.args.name)
