-- The step of the device with the id, or the first cause.
use Rattle.std.proofs.Common.{◌∙◌, sym}
use Rattle.std.specs.Prelude.{not}
use Rattle.rdma_types.specs.declared.answers.Refusal.TheVariants as refusal
use Rattle.protocol.specs.declared.events.Event.TheVariants as event
use Rattle.protocol.specs.State.{device_at}
use Rattle.protocol.specs.WorldStep.{has_device, releases, runs}
use Rattle.world_core.proofs.Causes.{holds_first, holds_not, no_cause, not_false, not_true}
use Rattle.world_core.proofs.Worlds.{device_stays, no_device_there, passes, refused, run_makes}
use Rattle.world_core.proofs.world.World.release.Goals as goal

pub returns-in-Some-clause-ok : goal.returns-in-Some-clause-ok
unfolding releases
returns-in-Some-clause-ok c =
    let w = c.args.self.now in
    let d = device_at w c.args.device in
    let at = device_stays w c.args.device c.in-Some.place (sym c.place_of.ensures ∙ c.in-Some.is) in
    run_makes c.run.result w c.run.new.self c.in-Some.place d (event.Release c.args.context) _ c.run.ensures.ok at.here
    (λ a made. passes w _ (runs w d (event.Release c.args.context)) a c.run.new.self
    (holds_not refusal.NoSuch (not (has_device w c.args.device)) _ (not_true _ at.there) ∙ no_cause) made)

pub returns-in-None-clause-ok : goal.returns-in-None-clause-ok
unfolding releases
returns-in-None-clause-ok c =
    let w = c.args.self.now in
    refused w _ refusal.NoSuch _ c.requires.ready.kept
    (holds_first refusal.NoSuch (not (has_device w c.args.device)) _ (not_false _ (no_device_there w c.args.device (sym c.place_of.ensures ∙ c.in-None.is))))

pub returns-in-Some-clause-never_out_of_memory : goal.returns-in-Some-clause-never_out_of_memory
returns-in-Some-clause-never_out_of_memory c = c.run.ensures.never_out_of_memory tt
