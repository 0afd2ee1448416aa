use Rattle.std.proofs.Common.{◌≡◌, sym, subst, ap, ◌∙◌, []}
use Rattle.std.specs.Option.{option_copied_mut}
use Rattle.std.specs.Prelude.{IfSome}
use Rattle.std.specs.Result.{result_err}
use Rattle.std.proofs.lemmas.List.Elements.{recursion_from_All}
use Rattle.std.proofs.lemmas.Result.{IfOk-at_ok, err_from_is_err_and}
use Rattle.rdma_types.specs.declared.answers.Answer.TheVariants as answer
use Rattle.protocol.specs.DeviceStep.{answers, receives, with_context}
use Rattle.protocol.specs.State.{Context, end_at}
use Rattle.endpoint_core.specs.Answers.{received_at}
use Rattle.endpoint_core.specs.Ends.{Names, end_in}
use Rattle.endpoint_core.specs.Queues.{count_at, nothing}
use Rattle.endpoint_core.specs.Sites.{IsHome, IsSound, Keeps, home}
use Rattle.context_core.specs.Context.{HasQueues, Holding, IsContext, context_in, names_in, site_in}
use Rattle.context_core.specs.Queues.{TakesReceive}
use Rattle.context_core.proofs.EndsByName.{end-found}
use Rattle.context_core.proofs.ReservedSteps.{ok-below, posts-moves, posts-step, reserves, with_queues}
use Rattle.context_core.proofs.EndSteps.{site_after}
use Rattle.context_core.proofs.EndStepCalls.{each-at, end-sound, entry, entry-there, none-new}
use Rattle.context_core.proofs.state.ContextState.post_recv.Goals as goal

pub admitted-requires : goal.admitted-requires
admitted-requires c = (subst (IsContext c.args.pool.now) (sym c.self.view_is) c.requires.is).is.placed

pub returns-in_err-place-clause-refused : goal.returns-in_err-place-clause-refused
returns-in_err-place-clause-refused c = λ n.
    let p = err_from_is_err_and c.from_residual.result c.from_residual.ensures.1 in
    rw (p.1, p.2) (ap result_err (sym c.in_err-place.was) ∙ c.admitted.ensures.refused c.args.pool.now n c.args.self.now c.requires.is (ap {A = Holding} (λ h. h.regions) (sym c.self.view_is)) (ap {A = Holding} (λ h. h.queues) (sym c.self.view_is)) (ap {A = Holding} (λ h. h.ends) (sym c.self.view_is)))

pub reserve-requires-clause-room : goal.reserve-requires-clause-room
reserve-requires-clause-room c = (subst (λ o. IfSome o (λ e. TakesReceive c.self.inside.regions c.self.inside.queues.entries e.1 c.args.receive.now)) (entry-there c.self.inside.ends.entries c.in_ok-place.place c.unwrap-slot.result.now (sym c.get_index_mut.ensures.value ∙ ap option_copied_mut c.unwrap-slot.ensures)) c.in_ok-place.ensures.takes).room

pub reserve-requires-clause-there : goal.reserve-requires-clause-there
reserve-requires-clause-there c = (each-at (HasQueues c.self.inside.queues.entries) c.self.inside.ends.entries c.in_ok-place.place (entry c.self.inside.ends.entries c.in_ok-place.place c.unwrap-slot.result.now) (recursion_from_All (HasQueues c.self.inside.queues.entries) c.self.inside.ends.entries (subst (IsContext c.args.pool.now) (sym c.self.view_is) c.requires.is).is.placed) (entry-there c.self.inside.ends.entries c.in_ok-place.place c.unwrap-slot.result.now (sym c.get_index_mut.ensures.value ∙ ap option_copied_mut c.unwrap-slot.ensures))).1

pub post_recv-requires-clause-sound : goal.post_recv-requires-clause-sound
post_recv-requires-clause-sound c = end-sound c.args.pool.now (with_queues (record { domains = c.self.inside.domains.keys; regions = c.self.inside.regions; queues = c.self.inside.queues.entries; ends = c.self.inside.ends.entries }) c.reserve.new.queues.entries) (count_at c.unwrap-slot.result.now.recv 1) c.in_ok-place.place (entry c.self.inside.ends.entries c.in_ok-place.place c.unwrap-slot.result.now) (reserves c.args.pool.now (record { domains = c.self.inside.domains.keys; regions = c.self.inside.regions; queues = c.self.inside.queues.entries; ends = c.self.inside.ends.entries }) c.unwrap-slot.result.now.recv c.reserve.new.queues.entries (subst (IsContext c.args.pool.now) (sym c.self.view_is) c.requires.is) (each-at (HasQueues c.self.inside.queues.entries) c.self.inside.ends.entries c.in_ok-place.place (entry c.self.inside.ends.entries c.in_ok-place.place c.unwrap-slot.result.now) (recursion_from_All (HasQueues c.self.inside.queues.entries) c.self.inside.ends.entries (subst (IsContext c.args.pool.now) (sym c.self.view_is) c.requires.is).is.placed) (entry-there c.self.inside.ends.entries c.in_ok-place.place c.unwrap-slot.result.now (sym c.get_index_mut.ensures.value ∙ ap option_copied_mut c.unwrap-slot.ensures))).1 c.reserve.ensures).is (entry-there c.self.inside.ends.entries c.in_ok-place.place c.unwrap-slot.result.now (sym c.get_index_mut.ensures.value ∙ ap option_copied_mut c.unwrap-slot.ensures))

pub post_recv-requires-clause-place : goal.post_recv-requires-clause-place
post_recv-requires-clause-place c = (subst (λ o. IfSome o (λ e. TakesReceive c.self.inside.regions c.self.inside.queues.entries e.1 c.args.receive.now)) (entry-there c.self.inside.ends.entries c.in_ok-place.place c.unwrap-slot.result.now (sym c.get_index_mut.ensures.value ∙ ap option_copied_mut c.unwrap-slot.ensures)) c.in_ok-place.ensures.takes).place

pub unwrap-requires : goal.unwrap-requires
unwrap-requires c = ok-below c.post_recv.result _ _ c.post_recv.ensures.full (subst (λ o. IfSome o (λ e. TakesReceive c.self.inside.regions c.self.inside.queues.entries e.1 c.args.receive.now)) (entry-there c.self.inside.ends.entries c.in_ok-place.place c.unwrap-slot.result.now (sym c.get_index_mut.ensures.value ∙ ap option_copied_mut c.unwrap-slot.ensures)) c.in_ok-place.ensures.takes).depth

pub returns-clause-refused : goal.returns-clause-refused
returns-clause-refused c = λ n. ap result_err (sym c.in_ok-place.was) ∙ c.admitted.ensures.refused c.args.pool.now n c.args.self.now c.requires.is (ap {A = Holding} (λ h. h.regions) (sym c.self.view_is)) (ap {A = Holding} (λ h. h.queues) (sym c.self.view_is)) (ap {A = Holding} (λ h. h.ends) (sym c.self.view_is))

pub returns-clause-is : goal.returns-clause-is
returns-clause-is c = (posts-step c.args.pool.now c.post_recv.new.memory.0 (record { domains = c.self.inside.domains.keys; regions = c.self.inside.regions; queues = c.self.inside.queues.entries; ends = c.self.inside.ends.entries }) c.unwrap-slot.result.now.recv c.reserve.new.queues.entries c.in_ok-place.place c.unwrap-slot.result.now c.post_recv.new.memory.1.0 c.post_recv.new.memory.1.1.0.entries c.post_recv.new.self [] (reserves c.args.pool.now (record { domains = c.self.inside.domains.keys; regions = c.self.inside.regions; queues = c.self.inside.queues.entries; ends = c.self.inside.ends.entries }) c.unwrap-slot.result.now.recv c.reserve.new.queues.entries (subst (IsContext c.args.pool.now) (sym c.self.view_is) c.requires.is) (each-at (HasQueues c.self.inside.queues.entries) c.self.inside.ends.entries c.in_ok-place.place (entry c.self.inside.ends.entries c.in_ok-place.place c.unwrap-slot.result.now) (recursion_from_All (HasQueues c.self.inside.queues.entries) c.self.inside.ends.entries (subst (IsContext c.args.pool.now) (sym c.self.view_is) c.requires.is).is.placed) (entry-there c.self.inside.ends.entries c.in_ok-place.place c.unwrap-slot.result.now (sym c.get_index_mut.ensures.value ∙ ap option_copied_mut c.unwrap-slot.ensures))).1 c.reserve.ensures) (sym c.get_index_mut.ensures.value ∙ ap option_copied_mut c.unwrap-slot.ensures) (none-new c.args.pool.now (record { domains = c.self.inside.domains.keys; regions = c.self.inside.regions; queues = c.self.inside.queues.entries; ends = c.self.inside.ends.entries })) (IfOk-at_ok (λ u. Keeps (site_in c.args.pool.now (with_queues (record { domains = c.self.inside.domains.keys; regions = c.self.inside.regions; queues = c.self.inside.queues.entries; ends = c.self.inside.ends.entries }) c.reserve.new.queues.entries) (entry c.self.inside.ends.entries c.in_ok-place.place c.unwrap-slot.result.now)) (site_after c.post_recv.new.memory.0 (entry c.self.inside.ends.entries c.in_ok-place.place c.unwrap-slot.result.now) c.post_recv.new.memory.1.0 c.post_recv.new.memory.1.1.0.entries c.post_recv.new.self) [] (count_at c.unwrap-slot.result.now.recv 1)) c.unwrap.ensures c.post_recv.ensures.keeps) (IfOk-at_ok (λ u. IsSound (site_after c.post_recv.new.memory.0 (entry c.self.inside.ends.entries c.in_ok-place.place c.unwrap-slot.result.now) c.post_recv.new.memory.1.0 c.post_recv.new.memory.1.1.0.entries c.post_recv.new.self) nothing) c.unwrap.ensures c.post_recv.ensures.sound)).is

pub returns-clause-moves : goal.returns-clause-moves
returns-clause-moves c = rw (← c.self.view_is) (posts-moves c.args.pool.now c.post_recv.new.memory.0 (record { domains = c.self.inside.domains.keys; regions = c.self.inside.regions; queues = c.self.inside.queues.entries; ends = c.self.inside.ends.entries }) c.reserve.new.queues.entries c.in_ok-place.place c.unwrap-slot.result.now c.post_recv.new.memory.1.0 c.post_recv.new.memory.1.1.0.entries c.post_recv.new.self (IfOk-at_ok (λ u. Keeps (site_in c.args.pool.now (with_queues (record { domains = c.self.inside.domains.keys; regions = c.self.inside.regions; queues = c.self.inside.queues.entries; ends = c.self.inside.ends.entries }) c.reserve.new.queues.entries) (entry c.self.inside.ends.entries c.in_ok-place.place c.unwrap-slot.result.now)) (site_after c.post_recv.new.memory.0 (entry c.self.inside.ends.entries c.in_ok-place.place c.unwrap-slot.result.now) c.post_recv.new.memory.1.0 c.post_recv.new.memory.1.1.0.entries c.post_recv.new.self) [] (count_at c.unwrap-slot.result.now.recv 1)) c.unwrap.ensures c.post_recv.ensures.keeps).lists.pages (posts-step c.args.pool.now c.post_recv.new.memory.0 (record { domains = c.self.inside.domains.keys; regions = c.self.inside.regions; queues = c.self.inside.queues.entries; ends = c.self.inside.ends.entries }) c.unwrap-slot.result.now.recv c.reserve.new.queues.entries c.in_ok-place.place c.unwrap-slot.result.now c.post_recv.new.memory.1.0 c.post_recv.new.memory.1.1.0.entries c.post_recv.new.self [] (reserves c.args.pool.now (record { domains = c.self.inside.domains.keys; regions = c.self.inside.regions; queues = c.self.inside.queues.entries; ends = c.self.inside.ends.entries }) c.unwrap-slot.result.now.recv c.reserve.new.queues.entries (subst (IsContext c.args.pool.now) (sym c.self.view_is) c.requires.is) (each-at (HasQueues c.self.inside.queues.entries) c.self.inside.ends.entries c.in_ok-place.place (entry c.self.inside.ends.entries c.in_ok-place.place c.unwrap-slot.result.now) (recursion_from_All (HasQueues c.self.inside.queues.entries) c.self.inside.ends.entries (subst (IsContext c.args.pool.now) (sym c.self.view_is) c.requires.is).is.placed) (entry-there c.self.inside.ends.entries c.in_ok-place.place c.unwrap-slot.result.now (sym c.get_index_mut.ensures.value ∙ ap option_copied_mut c.unwrap-slot.ensures))).1 c.reserve.ensures) (sym c.get_index_mut.ensures.value ∙ ap option_copied_mut c.unwrap-slot.ensures) (none-new c.args.pool.now (record { domains = c.self.inside.domains.keys; regions = c.self.inside.regions; queues = c.self.inside.queues.entries; ends = c.self.inside.ends.entries })) (IfOk-at_ok (λ u. Keeps (site_in c.args.pool.now (with_queues (record { domains = c.self.inside.domains.keys; regions = c.self.inside.regions; queues = c.self.inside.queues.entries; ends = c.self.inside.ends.entries }) c.reserve.new.queues.entries) (entry c.self.inside.ends.entries c.in_ok-place.place c.unwrap-slot.result.now)) (site_after c.post_recv.new.memory.0 (entry c.self.inside.ends.entries c.in_ok-place.place c.unwrap-slot.result.now) c.post_recv.new.memory.1.0 c.post_recv.new.memory.1.1.0.entries c.post_recv.new.self) [] (count_at c.unwrap-slot.result.now.recv 1)) c.unwrap.ensures c.post_recv.ensures.keeps) (IfOk-at_ok (λ u. IsSound (site_after c.post_recv.new.memory.0 (entry c.self.inside.ends.entries c.in_ok-place.place c.unwrap-slot.result.now) c.post_recv.new.memory.1.0 c.post_recv.new.memory.1.1.0.entries c.post_recv.new.self) nothing) c.unwrap.ensures c.post_recv.ensures.sound)))

pub returns-clause-numbers : goal.returns-clause-numbers
returns-clause-numbers c = rw (← c.self.view_is) (posts-step c.args.pool.now c.post_recv.new.memory.0 (record { domains = c.self.inside.domains.keys; regions = c.self.inside.regions; queues = c.self.inside.queues.entries; ends = c.self.inside.ends.entries }) c.unwrap-slot.result.now.recv c.reserve.new.queues.entries c.in_ok-place.place c.unwrap-slot.result.now c.post_recv.new.memory.1.0 c.post_recv.new.memory.1.1.0.entries c.post_recv.new.self [] (reserves c.args.pool.now (record { domains = c.self.inside.domains.keys; regions = c.self.inside.regions; queues = c.self.inside.queues.entries; ends = c.self.inside.ends.entries }) c.unwrap-slot.result.now.recv c.reserve.new.queues.entries (subst (IsContext c.args.pool.now) (sym c.self.view_is) c.requires.is) (each-at (HasQueues c.self.inside.queues.entries) c.self.inside.ends.entries c.in_ok-place.place (entry c.self.inside.ends.entries c.in_ok-place.place c.unwrap-slot.result.now) (recursion_from_All (HasQueues c.self.inside.queues.entries) c.self.inside.ends.entries (subst (IsContext c.args.pool.now) (sym c.self.view_is) c.requires.is).is.placed) (entry-there c.self.inside.ends.entries c.in_ok-place.place c.unwrap-slot.result.now (sym c.get_index_mut.ensures.value ∙ ap option_copied_mut c.unwrap-slot.ensures))).1 c.reserve.ensures) (sym c.get_index_mut.ensures.value ∙ ap option_copied_mut c.unwrap-slot.ensures) (none-new c.args.pool.now (record { domains = c.self.inside.domains.keys; regions = c.self.inside.regions; queues = c.self.inside.queues.entries; ends = c.self.inside.ends.entries })) (IfOk-at_ok (λ u. Keeps (site_in c.args.pool.now (with_queues (record { domains = c.self.inside.domains.keys; regions = c.self.inside.regions; queues = c.self.inside.queues.entries; ends = c.self.inside.ends.entries }) c.reserve.new.queues.entries) (entry c.self.inside.ends.entries c.in_ok-place.place c.unwrap-slot.result.now)) (site_after c.post_recv.new.memory.0 (entry c.self.inside.ends.entries c.in_ok-place.place c.unwrap-slot.result.now) c.post_recv.new.memory.1.0 c.post_recv.new.memory.1.1.0.entries c.post_recv.new.self) [] (count_at c.unwrap-slot.result.now.recv 1)) c.unwrap.ensures c.post_recv.ensures.keeps) (IfOk-at_ok (λ u. IsSound (site_after c.post_recv.new.memory.0 (entry c.self.inside.ends.entries c.in_ok-place.place c.unwrap-slot.result.now) c.post_recv.new.memory.1.0 c.post_recv.new.memory.1.1.0.entries c.post_recv.new.self) nothing) c.unwrap.ensures c.post_recv.ensures.sound)).numbers

pub returns-clause-posted : goal.returns-clause-posted
unfolding receives context_in
returns-clause-posted c = rw (← c.self.view_is) (λ n d.
    let res = (reserves c.args.pool.now (record { domains = c.self.inside.domains.keys; regions = c.self.inside.regions; queues = c.self.inside.queues.entries; ends = c.self.inside.ends.entries }) c.unwrap-slot.result.now.recv c.reserve.new.queues.entries (subst (IsContext c.args.pool.now) (sym c.self.view_is) c.requires.is) (each-at (HasQueues c.self.inside.queues.entries) c.self.inside.ends.entries c.in_ok-place.place (entry c.self.inside.ends.entries c.in_ok-place.place c.unwrap-slot.result.now) (recursion_from_All (HasQueues c.self.inside.queues.entries) c.self.inside.ends.entries (subst (IsContext c.args.pool.now) (sym c.self.view_is) c.requires.is).is.placed) (entry-there c.self.inside.ends.entries c.in_ok-place.place c.unwrap-slot.result.now (sym c.get_index_mut.ensures.value ∙ ap option_copied_mut c.unwrap-slot.ensures))).1 c.reserve.ensures) in
    let posts = (posts-step c.args.pool.now c.post_recv.new.memory.0 (record { domains = c.self.inside.domains.keys; regions = c.self.inside.regions; queues = c.self.inside.queues.entries; ends = c.self.inside.ends.entries }) c.unwrap-slot.result.now.recv c.reserve.new.queues.entries c.in_ok-place.place c.unwrap-slot.result.now c.post_recv.new.memory.1.0 c.post_recv.new.memory.1.1.0.entries c.post_recv.new.self [] (reserves c.args.pool.now (record { domains = c.self.inside.domains.keys; regions = c.self.inside.regions; queues = c.self.inside.queues.entries; ends = c.self.inside.ends.entries }) c.unwrap-slot.result.now.recv c.reserve.new.queues.entries (subst (IsContext c.args.pool.now) (sym c.self.view_is) c.requires.is) (each-at (HasQueues c.self.inside.queues.entries) c.self.inside.ends.entries c.in_ok-place.place (entry c.self.inside.ends.entries c.in_ok-place.place c.unwrap-slot.result.now) (recursion_from_All (HasQueues c.self.inside.queues.entries) c.self.inside.ends.entries (subst (IsContext c.args.pool.now) (sym c.self.view_is) c.requires.is).is.placed) (entry-there c.self.inside.ends.entries c.in_ok-place.place c.unwrap-slot.result.now (sym c.get_index_mut.ensures.value ∙ ap option_copied_mut c.unwrap-slot.ensures))).1 c.reserve.ensures) (sym c.get_index_mut.ensures.value ∙ ap option_copied_mut c.unwrap-slot.ensures) (none-new c.args.pool.now (record { domains = c.self.inside.domains.keys; regions = c.self.inside.regions; queues = c.self.inside.queues.entries; ends = c.self.inside.ends.entries })) (IfOk-at_ok (λ u. Keeps (site_in c.args.pool.now (with_queues (record { domains = c.self.inside.domains.keys; regions = c.self.inside.regions; queues = c.self.inside.queues.entries; ends = c.self.inside.ends.entries }) c.reserve.new.queues.entries) (entry c.self.inside.ends.entries c.in_ok-place.place c.unwrap-slot.result.now)) (site_after c.post_recv.new.memory.0 (entry c.self.inside.ends.entries c.in_ok-place.place c.unwrap-slot.result.now) c.post_recv.new.memory.1.0 c.post_recv.new.memory.1.1.0.entries c.post_recv.new.self) [] (count_at c.unwrap-slot.result.now.recv 1)) c.unwrap.ensures c.post_recv.ensures.keeps) (IfOk-at_ok (λ u. IsSound (site_after c.post_recv.new.memory.0 (entry c.self.inside.ends.entries c.in_ok-place.place c.unwrap-slot.result.now) c.post_recv.new.memory.1.0 c.post_recv.new.memory.1.1.0.entries c.post_recv.new.self) nothing) c.unwrap.ensures c.post_recv.ensures.sound)) in
    let found = end-found c.args.pool.now c.reserve.new.queues.entries c.self.inside.ends.entries c.args.name c.in_ok-place.place (entry c.self.inside.ends.entries c.in_ok-place.place c.unwrap-slot.result.now) (subst (IsContext c.args.pool.now) (sym c.self.view_is) c.requires.is).is.end_names c.in_ok-place.ensures.place (entry-there c.self.inside.ends.entries c.in_ok-place.place c.unwrap-slot.result.now (sym c.get_index_mut.ensures.value ∙ ap option_copied_mut c.unwrap-slot.ensures)) in
    let step = IfOk-at_ok (λ u. (k : Context) (names : Names) → IsHome k names (site_in c.args.pool.now (with_queues (record { domains = c.self.inside.domains.keys; regions = c.self.inside.regions; queues = c.self.inside.queues.entries; ends = c.self.inside.ends.entries }) c.reserve.new.queues.entries) (entry c.self.inside.ends.entries c.in_ok-place.place c.unwrap-slot.result.now)) → received_at k (end_in c.args.pool.now names c.unwrap-slot.result.now.endpoint) c.args.receive.now ≡ home k names (site_after c.post_recv.new.memory.0 (entry c.self.inside.ends.entries c.in_ok-place.place c.unwrap-slot.result.now) c.post_recv.new.memory.1.0 c.post_recv.new.memory.1.1.0.entries c.post_recv.new.self)) c.unwrap.ensures c.post_recv.ensures.step in
    ap {A = Context} (λ k. receives d k (end_at k c.args.name) c.args.receive.now) (sym (res.same n))
    ∙ (ap (λ e. receives d (context_in c.args.pool.now n (with_queues (record { domains = c.self.inside.domains.keys; regions = c.self.inside.regions; queues = c.self.inside.queues.entries; ends = c.self.inside.ends.entries }) c.reserve.new.queues.entries)) e c.args.receive.now) found.end
    ∙ ap (λ x. answers (with_context d x) answer.Done) (step (context_in c.args.pool.now n (with_queues (record { domains = c.self.inside.domains.keys; regions = c.self.inside.regions; queues = c.self.inside.queues.entries; ends = c.self.inside.ends.entries }) c.reserve.new.queues.entries)) (names_in c.reserve.new.queues.entries (entry c.self.inside.ends.entries c.in_ok-place.place c.unwrap-slot.result.now)) (posts.stands n) ∙ posts.shown n)))
