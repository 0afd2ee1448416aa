-- Some end is in Error.
use Rattle.std.proofs.Common.{◌≡◌, ◌∙◌, sym, ◌==◌, rules, tests}
use Rattle.std.specs.Prelude.{◌&&◌}
use Rattle.std.specs.List.{list_any}
use Rattle.std.proofs.lemmas.Iterator.{YieldsList-from_slice}
use Rattle.std.proofs.lemmas.Iterator.Search.{any_from_yields_List}
use Rattle.protocol.specs.Settle.{is_ended_image}
use Rattle.world_core.proofs.Places.{some-any}
use Rattle.world_core.proofs.lives.has_ended_end.Goals as goal

pub returns : goal.returns
returns c =
    let found : c.any.result ≡ list_any (λ e. e.number == c.args.number && is_ended_image e) c.args.image.now.ends =
    any_from_yields_List (λ e. e.number == c.args.number && is_ended_image e) _ _ c.any.result c.any.ensures.ran (YieldsList-from_slice c.args.image.now.ends cc) (λ x b q k. search (rules, tests)) in
    found ∙ sym (some-any (λ e. e.number == c.args.number && is_ended_image e) c.args.image.now.ends)
