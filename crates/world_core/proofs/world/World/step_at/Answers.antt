-- The step of the device where the context lives, or the first cause.
use Rattle.std.proofs.Common.{◌≡◌, ◌∙◌, ap, sym, subst, []}
use Rattle.std.specs.Prelude.{IfOk, None, OnErr}
use Rattle.std.specs.List.{position}
use Rattle.rdma_types.specs.declared.names.Name.{Name}
use Rattle.rdma_types.specs.Causes.{first_cause}
use Rattle.protocol.specs.Refusals.{has_context}
use Rattle.protocol.specs.WorldStep.{context_causes, context_of_event, home, is_carried, is_live, runs, steps_at}
use Rattle.protocol.specs.declared.events.WorldEvent.TheVariants as world_event
use Rattle.device_core.specs.Readings.{TakesNoMemory}
use Rattle.world_core.specs.Causes.{world_refusal}
use Rattle.world_core.specs.Kept.{Makes}
use Rattle.world_core.proofs.Places.{same_thing}
use Rattle.world_core.proofs.Causes.{at_home, no_cause}
use Rattle.world_core.proofs.Lacking.{handed_stays, none_due}
use Rattle.world_core.proofs.Worlds.{lives, passes, refused, run_makes}
use Rattle.world_core.proofs.world.World.step_at.Goals as goal

pub returns-in-Ok-clause-ok : goal.returns-in-Ok-clause-ok
unfolding steps_at
returns-in-Ok-clause-ok c =
    let w = c.args.self.now in
    let n = context_of_event c.args.event.now in
    let name : c.unwrap-name.result ≡ n = same_thing c.unwrap-name.result n (sym c.unwrap-name.ensures ∙ c.context_of.ensures c.requires.handed) in
    let at = lives w n c.in-Ok.place (ap (λ (m : Name). position (λ d. has_context d m) w.devices) (sym name) ∙ c.in-Ok.ensures.home) in
    run_makes c.run.result w c.run.new.self c.in-Ok.place (home w n) c.args.event.now _ c.run.ensures.ok at.here
    (λ a made. passes w _ (runs w (home w n) c.args.event.now) a c.run.new.self (at_home (is_live w n) (is_carried w n) [] at.live ∙ no_cause) made)

pub returns-in-Err-clause-ok : goal.returns-in-Err-clause-ok
unfolding steps_at
returns-in-Err-clause-ok c =
    let w = c.args.self.now in
    let n = context_of_event c.args.event.now in
    let name : c.unwrap-name.result ≡ n = same_thing c.unwrap-name.result n (sym c.unwrap-name.ensures ∙ c.context_of.ensures c.requires.handed) in
    refused w _ c.in-Err.refusal _ c.requires.ready.kept (ap (λ (m : Name). first_cause (context_causes w m [])) (sym name) ∙ c.in-Err.ensures.refusal [])

pub returns-in-Transmit-clause-ok : goal.returns-in-Transmit-clause-ok
returns-in-Transmit-clause-ok c = subst (λ e. IfOk c.transmit_at.result (λ a. Makes (steps_at c.args.self.now (context_of_event e) e) a c.transmit_at.new.self)) (sym c.in-Transmit.is) c.transmit_at.ensures.ok

pub run-requires-clause-stays : goal.run-requires-clause-stays
run-requires-clause-stays c = handed_stays c.args.event.now c.requires.handed

pub returns-in-Ok-clause-refused_first : goal.returns-in-Ok-clause-refused_first
returns-in-Ok-clause-refused_first c =
    let w = c.args.self.now in
    let n = context_of_event c.args.event.now in
    let name : c.unwrap-name.result ≡ n = same_thing c.unwrap-name.result n (sym c.unwrap-name.ensures ∙ c.context_of.ensures c.requires.handed) in
    let at = lives w n c.in-Ok.place (ap (λ (m : Name). position (λ d. has_context d m) w.devices) (sym name) ∙ c.in-Ok.ensures.home) in
    none_due c.run.result w c.in-Ok.place (home w n) c.args.event.now _ (at_home (is_live w n) (is_carried w n) [] at.live ∙ no_cause) at.here c.run.ensures.refused_first

pub returns-in-Transmit-clause-refused_first : goal.returns-in-Transmit-clause-refused_first
returns-in-Transmit-clause-refused_first c = subst (λ e. OnErr c.transmit_at.result (world_refusal c.args.self.now (world_event.At e) ≡ None)) (sym c.in-Transmit.is) c.transmit_at.ensures.refused_first

pub returns-in-Transmit-clause-never_out_of_memory : goal.returns-in-Transmit-clause-never_out_of_memory
returns-in-Transmit-clause-never_out_of_memory c = λ none. absurd (subst TakesNoMemory c.in-Transmit.is none)
