-- Some end is such a one.
use Rattle.std.proofs.Common.{◌≡◌, ◌∙◌, sym, ◌==◌, rules, tests}
use Rattle.std.specs.Prelude.{◌&&◌}
use Rattle.std.specs.List.{list_any}
use Rattle.std.proofs.lemmas.Iterator.{YieldsList-from_slice}
use Rattle.std.proofs.lemmas.Iterator.Search.{any_from_yields_List}
use Rattle.protocol.specs.WorldStep.{is_linked_image}
use Rattle.world_core.proofs.Places.{some-any}
use Rattle.world_core.proofs.moving.has_linked_end.Goals as goal

pub returns : goal.returns
returns c =
    let found : c.any.result ≡ list_any (λ e. e.number == c.args.number && is_linked_image e.linked) c.args.image.now.ends =
    any_from_yields_List (λ e. e.number == c.args.number && is_linked_image e.linked) _ _ c.any.result c.any.ensures.ran (YieldsList-from_slice c.args.image.now.ends cc) (λ x b q k. search (rules, tests)) in
    found ∙ sym (some-any (λ e. e.number == c.args.number && is_linked_image e.linked) c.args.image.now.ends)
