-- The step of the device with the id on the carried image, or the first cause.
use Rattle.std.proofs.Common.{◌∙◌, sym, subst, ◌||◌}
use Rattle.std.specs.Prelude.{not}
use Rattle.rdma_types.specs.Lists.{has_word}
use Rattle.rdma_types.specs.declared.answers.Answer.TheVariants as answer
use Rattle.rdma_types.specs.declared.answers.Refusal.TheVariants as refusal
use Rattle.protocol.specs.WorldStep.{carried_image, has_device, restores, restores_image}
use Rattle.world_core.specs.Kept.{Makes}
use Rattle.world_core.proofs.Causes.{holds_first, holds_not, no_cause, not_false, not_true, or_left, or_neither, or_right}
use Rattle.world_core.proofs.Restoring.{none_due_there, not_carried, restores_there}
use Rattle.world_core.proofs.Worlds.{device_stays, no_device_there, passes, refused, stays}
use Rattle.world_core.proofs.world.World.restore.Goals as goal

pub returns-in_default-clause-ok : goal.returns-in_default-clause-ok
unfolding restores
returns-in_default-clause-ok c =
    let w = c.args.self.now in
    refused w _ refusal.NoSuch _ c.requires.ready.kept
    (holds_first refusal.NoSuch (not (has_device w c.args.device) || not (has_word c.args.context w.stopped)) _
    (or_left _ _ (not_false _ (no_device_there w c.args.device (sym c.place_of.ensures ∙ c.in_default.is)))))

pub returns-then-not-was_stopped-clause-ok : goal.returns-then-not-was_stopped-clause-ok
unfolding restores
returns-then-not-was_stopped-clause-ok c =
    let w = c.args.self.now in
    refused w _ refusal.NoSuch _ c.requires.ready.kept
    (holds_first refusal.NoSuch (not (has_device w c.args.device) || not (has_word c.args.context w.stopped)) _
    (or_right _ _ (not_false _ (sym c.was_stopped.ensures ∙ c.if-not-was_stopped.true))))

pub returns-in_default-image_of-clause-ok : goal.returns-in_default-image_of-clause-ok
unfolding restores
returns-in_default-image_of-clause-ok c =
    let w = c.args.self.now in
    let at = device_stays w c.args.device c.in-Some.place (sym c.place_of.ensures ∙ c.in-Some.is) in
    passes w _ (restores_image w c.args.context c.args.device (carried_image w c.args.context)) (answer.Refused refusal.Spent) w
    (holds_not refusal.NoSuch (not (has_device w c.args.device) || not (has_word c.args.context w.stopped)) _
    (or_neither _ _ (not_true _ at.there) (not_true _ (sym c.was_stopped.ensures ∙ c.if-not-was_stopped.false))) ∙ no_cause)
    (subst (λ o. Makes (restores_image w c.args.context c.args.device o) (answer.Refused refusal.Spent) w) (sym (not_carried w c.args.context (sym c.image_of.ensures ∙ c.in_default-image_of.is)))
    (stays w (answer.Refused refusal.Spent) c.requires.ready.kept))

pub returns-clause-ok : goal.returns-clause-ok
returns-clause-ok c =
    restores_there c.put_back.result c.args.self.now c.put_back.new.self c.args.context c.args.device c.in-Some.place c.in-Some-image_of.spot c.put_back.ensures.ok
    (sym c.place_of.ensures ∙ c.in-Some.is) (sym c.was_stopped.ensures ∙ c.if-not-was_stopped.false) (sym c.image_of.ensures ∙ c.in-Some-image_of.is)

pub returns-clause-refused_first : goal.returns-clause-refused_first
returns-clause-refused_first c =
    none_due_there c.put_back.result c.args.self.now c.args.context c.args.device c.in-Some.place c.in-Some-image_of.spot c.put_back.ensures.refused_first
    (sym c.place_of.ensures ∙ c.in-Some.is) (sym c.was_stopped.ensures ∙ c.if-not-was_stopped.false) (sym c.image_of.ensures ∙ c.in-Some-image_of.is)
