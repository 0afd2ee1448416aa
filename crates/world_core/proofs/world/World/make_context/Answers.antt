-- The first cause by what is found, or the device's step.
use Rattle.std.proofs.Common.{◌∙◌, sym, ◌||◌}
use Rattle.std.specs.Prelude.{not}
use Rattle.rdma_types.specs.declared.answers.Refusal.TheVariants as refusal
use Rattle.protocol.specs.declared.events.Event.TheVariants as event
use Rattle.protocol.specs.State.{device_at}
use Rattle.protocol.specs.WorldStep.{has_device, is_carried, is_live, makes_context, runs}
use Rattle.world_core.proofs.Causes.{holds_first, holds_not, no_cause, not_false, not_true}
use Rattle.world_core.proofs.Lacking.{none_due}
use Rattle.world_core.proofs.Worlds.{device_stays, no_device_there, passes, refused, run_makes}
use Rattle.world_core.proofs.world.World.make_context.Goals as goal

pub returns-in_default-clause-ok : goal.returns-in_default-clause-ok
unfolding makes_context
returns-in_default-clause-ok c =
    let w = c.args.self.now in
    refused w _ refusal.NoSuch _ c.requires.ready.kept
    (holds_first refusal.NoSuch (not (has_device w c.args.device)) _ (not_false _ (no_device_there w c.args.device (sym c.place_of.ensures ∙ c.in_default.is))))

pub returns-then-is_known-clause-ok : goal.returns-then-is_known-clause-ok
unfolding makes_context
returns-then-is_known-clause-ok c =
    let w = c.args.self.now in
    refused w _ refusal.NumberTaken _ c.requires.ready.kept
    (holds_not refusal.NoSuch (not (has_device w c.args.device)) _ (not_true _ (device_stays w c.args.device c.in-Some.place (sym c.place_of.ensures ∙ c.in-Some.is)).there)
    ∙ holds_first refusal.NumberTaken (is_live w c.args.name || is_carried w c.args.name) _ (sym c.is_known.ensures ∙ c.if-is_known.true))

pub returns-clause-ok : goal.returns-clause-ok
unfolding makes_context
returns-clause-ok c =
    let w = c.args.self.now in
    let d = device_at w c.args.device in
    let at = device_stays w c.args.device c.in-Some.place (sym c.place_of.ensures ∙ c.in-Some.is) in
    run_makes c.run_moving.result w c.run_moving.new.self c.in-Some.place d (event.MakeContext c.args.name) _ c.run_moving.ensures.ok at.here
    (λ a made. passes w _ (runs w d (event.MakeContext c.args.name)) a c.run_moving.new.self
    (holds_not refusal.NoSuch (not (has_device w c.args.device)) _ (not_true _ at.there)
    ∙ (holds_not refusal.NumberTaken (is_live w c.args.name || is_carried w c.args.name) _ (sym c.is_known.ensures ∙ c.if-is_known.false) ∙ no_cause)) made)

pub returns-clause-refused_first : goal.returns-clause-refused_first
returns-clause-refused_first c =
    let w = c.args.self.now in
    let at = device_stays w c.args.device c.in-Some.place (sym c.place_of.ensures ∙ c.in-Some.is) in
    none_due c.run_moving.result w c.in-Some.place (device_at w c.args.device) (event.MakeContext c.args.name) _
    (holds_not refusal.NoSuch (not (has_device w c.args.device)) _ (not_true _ at.there)
    ∙ (holds_not refusal.NumberTaken (is_live w c.args.name || is_carried w c.args.name) _ (sym c.is_known.ensures ∙ c.if-is_known.false) ∙ no_cause)) at.here c.run_moving.ensures.refused_first
