-- The first carried image with the name.
use Rattle.std.proofs.Common.{◌≡◌, ◌∙◌, sym, ap, subst, bytes_eq, Bor, Option, None, Some}
use Rattle.std.specs.Prelude.{IfSome}
use Rattle.protocol.specs.Lawful.{IsLawful}
use Rattle.protocol.specs.declared.images.ContextImage.{ContextImage}
use Rattle.std.specs.List.{find}
use Rattle.std.specs.Option.{option_copied}
use Rattle.rdma_types.specs.Lists.{first_that}
use Rattle.protocol.specs.State.{World}
use Rattle.protocol.specs.WorldStep.{carried_image}
use Rattle.world_core.proofs.Places.{find_keeps, first_that-find}
use Rattle.world_core.proofs.world.World.carried.Goals as goal

is_lawful : (o : Option (Bor ContextImage)) → IfSome (option_copied o) IsLawful → IfSome o (λ image. IsLawful image.now)
is_lawful None h = tt
is_lawful (Some image) h = h

pub returns-clause-image : goal.returns-clause-image
unfolding carried_image
returns-clause-image c =
    c.image_of.ensures ∙ ap (λ (w : World). first_that (λ x. bytes_eq x.name c.args.context) w.carried) c.self.view_is

pub returns-clause-lawful : goal.returns-clause-lawful
returns-clause-lawful c =
    let found : option_copied c.image_of.result ≡ find (λ x. bytes_eq x.name c.args.context) c.self.inside.stops.carried =
    c.image_of.ensures ∙ first_that-find (λ x. bytes_eq x.name c.args.context) c.self.inside.stops.carried in
    is_lawful c.image_of.result (subst (λ o. IfSome o IsLawful) (sym found) (find_keeps IsLawful (λ x. bytes_eq x.name c.args.context) c.self.inside.stops.carried c.self.invariant.lawful))
