-- Some carried image has such an end.
use Rattle.std.proofs.Common.{◌≡◌, ◌∙◌, sym, ap, ◌==◌, rules, tests}
use Rattle.std.specs.Prelude.{◌&&◌}
use Rattle.std.specs.List.{list_any}
use Rattle.std.proofs.lemmas.Iterator.{YieldsList-from_slice}
use Rattle.std.proofs.lemmas.Iterator.Search.{any_from_yields_List}
use Rattle.rdma_types.specs.Lists.{some}
use Rattle.protocol.specs.Settle.{is_ended_image}
use Rattle.protocol.specs.State.{World}
use Rattle.world_core.proofs.Places.{some-any}
use Rattle.world_core.proofs.world.World.has_ended_carried.Goals as goal

pub returns : goal.returns
returns c =
    let found : c.any.result ≡ list_any (λ x. some (λ e. e.number == c.args.number && is_ended_image e) x.ends) c.self.inside.stops.carried =
    any_from_yields_List (λ x. some (λ e. e.number == c.args.number && is_ended_image e) x.ends) _ _ c.any.result c.any.ensures.ran (YieldsList-from_slice c.self.inside.stops.carried cc) (λ x b q k. search (rules, tests)) in
    found ∙ (sym (some-any (λ x. some (λ e. e.number == c.args.number && is_ended_image e) x.ends) c.self.inside.stops.carried) ∙ ap (λ (w : World). some (λ x. some (λ e. e.number == c.args.number && is_ended_image e) x.ends) w.carried) c.self.view_is)
