-- The kept part of a whole world is answered as the whole one.
use Rattle.std.proofs.Common.{◌∙◌, sym, subst}
use Rattle.protocol.specs.WorldStep.{world_step}
use Rattle.law_simulation.specs.Named.{ReachesByName}
use Rattle.law_kept_datagrams.specs.Alike.{StepAlike, with_kept_datagrams}
use Rattle.world_core.proofs.Worlds.{alike_kept_datagrams}
use Rattle.world_core.proofs.laws.steps_are_followed.Goals as goal

pub returns : goal.returns
returns c = λ old new e answer made w m kept stands range.
    let alike : StepAlike (world_step (with_kept_datagrams w) e) (world_step w e) = c.alike_worlds_are_answered_alike.ensures.event (with_kept_datagrams w) w e (c.alike_worlds_are_answered_alike.ensures.kept_datagrams w) in
    let alike' : StepAlike (world_step old e) (world_step w e) = subst (λ x. StepAlike (world_step x e) (world_step w e)) kept alike in
    record {
      reached = subst (λ a. ReachesByName w m e (world_step w e).world a) (sym (made.answered ∙ alike'.answer)) (c.steps_are_named.ensures.events e w m range stands);
      left = made.left ∙ alike_kept_datagrams (world_step old e).world (world_step w e).world alike'.world;
    }
