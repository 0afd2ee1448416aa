-- Some device has such an end.
use Rattle.std.proofs.Common.{◌≡◌, ◌∙◌, sym, ap, rules, tests}
use Rattle.std.specs.List.{list_any}
use Rattle.std.proofs.lemmas.Iterator.{YieldsList-from_slice}
use Rattle.std.proofs.lemmas.Iterator.Search.{any_from_yields_List}
use Rattle.device_core.specs.Readings.{has_ended_end}
use Rattle.protocol.specs.Settle.{is_ended_live}
use Rattle.world_core.proofs.LiveEnds.{ended-live}
use Rattle.world_core.proofs.Places.{some-any}
use Rattle.world_core.proofs.world.World.has_ended_live.Goals as goal

pub returns : goal.returns
returns c =
    let found : c.any.result ≡ list_any (λ d. has_ended_end d c.args.number) c.self.inside.devices.items =
    any_from_yields_List (λ d. has_ended_end d c.args.number) _ _ c.any.result c.any.ensures.ran (YieldsList-from_slice c.self.inside.devices.items cc) (λ x b q k. search (rules, tests)) in
    found ∙ (sym (some-any (λ d. has_ended_end d c.args.number) c.self.inside.devices.items) ∙ (sym (ended-live _ c.args.number) ∙ ap (λ w. is_ended_live w c.args.number) c.self.view_is))
