-- The device where the context lives.
use Rattle.std.proofs.Common.{◌≡◌, ◌∙◌, ◌<◌, ◌^◌, ap, subst, sym, Option}
use Rattle.std.specs.Prelude.{IfSome}
use Rattle.protocol.specs.State.{Device, no_device}
use Rattle.protocol.specs.WorldStep.{home, live_context, or_none}
use Rattle.rdma_types.specs.Lists.{named}
use Rattle.protocol.specs.Refusals.{has_context}
use Rattle.device_core.specs.Readings.{link_named}
use Rattle.world_core.specs.Lives.{LinkView}
use Rattle.world_core.proofs.Places.{none_passes}
use Rattle.world_core.proofs.Worlds.{lives, no_life, read_device}
use Rattle.world_core.proofs.world.World.link_at.Goals as goal

pub returns-in_err-place-clause-link : goal.returns-in_err-place-clause-link
unfolding live_context home named
returns-in_err-place-clause-link c =
    let w = c.args.self.now in
    let o = c.args.end.now in
    let none : home w o.context ≡ no_device = ap (λ o. or_none o) (none_passes (λ (d : Device). has_context d o.context) w.devices (no_life w o.context (sym c.home_of.ensures ∙ c.in_err-place.was))) in
    c.from_residual.ensures ∙ sym (ap (λ d. link_named d o) none)

pub returns-clause-link : goal.returns-clause-link
unfolding live_context
returns-clause-link c =
    let w = c.args.self.now in
    let o = c.args.end.now in
    let device : c.index.result.now ≡ home w o.context = read_device _ w c.in_ok-place.place c.index.result.now (home w o.context) c.self.view_is (lives w o.context c.in_ok-place.place (sym c.home_of.ensures ∙ c.in_ok-place.was)).here c.index.ensures in
    c.link_named.ensures.link ∙ ap (λ d. link_named d o) device

pub returns-in_err-place-clause-bounded : goal.returns-in_err-place-clause-bounded
returns-in_err-place-clause-bounded c = subst (λ (o : Option LinkView). IfSome o (λ l. l.last < 2 ^ 62)) (sym c.from_residual.ensures) tt

pub returns-clause-bounded : goal.returns-clause-bounded
returns-clause-bounded c = c.link_named.ensures.bounded
