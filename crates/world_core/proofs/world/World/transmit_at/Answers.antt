-- The transmission of the device where the context lives, or the first cause.
use Rattle.std.proofs.Common.{◌∙◌, []}
use Rattle.protocol.specs.WorldStep.{home, is_carried, is_live, runs, steps_at}
use Rattle.protocol.specs.declared.events.Event.TheVariants as event
use Rattle.world_core.proofs.Causes.{at_home, no_cause}
use Rattle.world_core.proofs.Lacking.{none_due}
use Rattle.world_core.proofs.Worlds.{lives, passes, refused, run_makes}
use Rattle.world_core.proofs.world.World.transmit_at.Goals as goal

pub returns-in-Ok-clause-ok : goal.returns-in-Ok-clause-ok
unfolding steps_at
returns-in-Ok-clause-ok c =
    let w = c.args.self.now in
    let n = c.args.end.now.context in
    let at = lives w n c.in-Ok.place c.in-Ok.ensures.home in
    run_makes c.transmit_from.result w c.transmit_from.new.self c.in-Ok.place (home w n) (event.Transmit c.args.end.now) _ c.transmit_from.ensures.ok at.here
    (λ a made. passes w _ (runs w (home w n) (event.Transmit c.args.end.now)) a c.transmit_from.new.self (at_home (is_live w n) (is_carried w n) [] at.live ∙ no_cause) made)

pub returns-in-Err-clause-ok : goal.returns-in-Err-clause-ok
unfolding steps_at
returns-in-Err-clause-ok c = refused c.args.self.now _ c.in-Err.refusal _ c.requires.ready.kept (c.in-Err.ensures.refusal [])

pub returns-in-Ok-clause-refused_first : goal.returns-in-Ok-clause-refused_first
returns-in-Ok-clause-refused_first c =
    let w = c.args.self.now in
    let n = c.args.end.now.context in
    let at = lives w n c.in-Ok.place c.in-Ok.ensures.home in
    none_due c.transmit_from.result w c.in-Ok.place (home w n) (event.Transmit c.args.end.now) _ (at_home (is_live w n) (is_carried w n) [] at.live ∙ no_cause) at.here c.transmit_from.ensures.refused_first
