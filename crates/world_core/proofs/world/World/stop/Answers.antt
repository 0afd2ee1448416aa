-- The step of the device where the context lives, or the first cause.
use Rattle.std.proofs.Common.{◌≡◌, ◌∙◌, sym, ◌∷◌, [], true, false}
use Rattle.rdma_types.specs.Causes.{cause}
use Rattle.rdma_types.specs.Lists.{some}
use Rattle.rdma_types.specs.declared.answers.Refusal.TheVariants as refusal
use Rattle.protocol.specs.declared.events.Event.TheVariants as event
use Rattle.protocol.specs.WorldStep.{home, is_carried, is_live, live_context, partner_moves, runs, stops}
use Rattle.world_core.proofs.Causes.{at_home, holds_first, holds_not, no_cause}
use Rattle.world_core.proofs.Lacking.{none_due}
use Rattle.world_core.proofs.Worlds.{lives, passes, refused, run_makes}
use Rattle.world_core.proofs.world.World.stop.Goals as goal

pub returns-in-Err-clause-ok : goal.returns-in-Err-clause-ok
unfolding stops
returns-in-Err-clause-ok c = refused c.args.self.now _ c.in-Err.refusal _ c.requires.ready.kept (c.in-Err.ensures.refusal _)

pub returns-then-is_held-clause-ok : goal.returns-then-is_held-clause-ok
unfolding stops live_context
returns-then-is_held-clause-ok c =
    let w = c.args.self.now in
    let n = c.args.context in
    let at = lives w n c.in-Ok.place c.in-Ok.ensures.home in
    let moves : some (λ e. partner_moves w e.link) (live_context w n).ends ≡ true = sym (c.is_held.ensures (home w n) at.here) ∙ c.if-is_held.true in
    refused w _ refusal.PeerMoving _ c.requires.ready.kept
    (at_home (is_live w n) (is_carried w n) (cause refusal.PeerMoving (some (λ e. partner_moves w e.link) (live_context w n).ends) ∷ []) at.live
    ∙ holds_first refusal.PeerMoving (some (λ e. partner_moves w e.link) (live_context w n).ends) [] moves)

pub returns-clause-ok : goal.returns-clause-ok
unfolding stops live_context
returns-clause-ok c =
    let w = c.args.self.now in
    let n = c.args.context in
    let at = lives w n c.in-Ok.place c.in-Ok.ensures.home in
    let stays : some (λ e. partner_moves w e.link) (live_context w n).ends ≡ false = sym (c.is_held.ensures (home w n) at.here) ∙ c.if-is_held.false in
    run_makes c.run_moving.result w c.run_moving.new.self c.in-Ok.place (home w n) (event.Stop n false) _ c.run_moving.ensures.ok at.here
    (λ a made. passes w _ (runs w (home w n) (event.Stop n false)) a c.run_moving.new.self
    (at_home (is_live w n) (is_carried w n) (cause refusal.PeerMoving (some (λ e. partner_moves w e.link) (live_context w n).ends) ∷ []) at.live
    ∙ (holds_not refusal.PeerMoving (some (λ e. partner_moves w e.link) (live_context w n).ends) [] stays ∙ no_cause)) made)

pub returns-clause-refused_first : goal.returns-clause-refused_first
unfolding live_context
returns-clause-refused_first c =
    let w = c.args.self.now in
    let n = c.args.context in
    let at = lives w n c.in-Ok.place c.in-Ok.ensures.home in
    let stays : some (λ e. partner_moves w e.link) (live_context w n).ends ≡ false = sym (c.is_held.ensures (home w n) at.here) ∙ c.if-is_held.false in
    none_due c.run_moving.result w c.in-Ok.place (home w n) (event.Stop n false) _
    (at_home (is_live w n) (is_carried w n) (cause refusal.PeerMoving (some (λ e. partner_moves w e.link) (live_context w n).ends) ∷ []) at.live
    ∙ (holds_not refusal.PeerMoving (some (λ e. partner_moves w e.link) (live_context w n).ends) [] stays ∙ no_cause)) at.here c.run_moving.ensures.refused_first
