-- The device where the context lives.
use Rattle.std.proofs.Common.{◌≡◌, ◌∙◌, ap, sym}
use Rattle.protocol.specs.State.{Device, no_device}
use Rattle.protocol.specs.Readers.{end_view}
use Rattle.protocol.specs.WorldStep.{home, live_context, or_none}
use Rattle.rdma_types.specs.Lists.{named}
use Rattle.protocol.specs.Refusals.{has_context}
use Rattle.world_core.proofs.Places.{none_passes}
use Rattle.world_core.proofs.Worlds.{lives, no_life, read_device}
use Rattle.world_core.proofs.world.World.end_at.Goals as goal

pub returns-in_err-place : goal.returns-in_err-place
unfolding live_context home named
returns-in_err-place c =
    let w = c.args.self.now in
    let none : home w c.args.context ≡ no_device = ap (λ o. or_none o) (none_passes (λ (d : Device). has_context d c.args.context) w.devices (no_life w c.args.context (sym c.home_of.ensures ∙ c.in_err-place.was))) in
    c.from_residual.ensures ∙ sym (ap (λ d. end_view d c.args.context c.args.i) none)

pub returns : goal.returns
unfolding live_context
returns c =
    let w = c.args.self.now in
    let device : c.index.result.now ≡ home w c.args.context = read_device _ w c.in_ok-place.place c.index.result.now (home w c.args.context) c.self.view_is (lives w c.args.context c.in_ok-place.place (sym c.home_of.ensures ∙ c.in_ok-place.was)).here c.index.ensures in
    c.end_at.ensures ∙ ap (λ d. end_view d c.args.context c.args.i) device
