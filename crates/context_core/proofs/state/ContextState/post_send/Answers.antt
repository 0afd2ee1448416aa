use Rattle.std.proofs.Common.{◌≡◌, refl, sym, subst, ap, ◌∙◌, true}
use Rattle.std.specs.Option.{option_copied_mut}
use Rattle.std.specs.Prelude.{IfSome, ◌∷◌, [], option_map}
use Rattle.std.specs.Result.{result_err}
use Rattle.std.proofs.lemmas.List.Elements.{recursion_from_All}
use Rattle.std.proofs.lemmas.Result.{IfOk-at_ok, err_from_is_err_and}
use Rattle.end_queues.specs.Untold.{posted_in}
use Rattle.protocol.specs.Refusals.{end_causes}
use Rattle.protocol.specs.State.{Context, end_at}
use Rattle.endpoint_core.specs.Answers.{posted_by}
use Rattle.endpoint_core.specs.Ends.{Names, end_in, is_ended_link, link_in}
use Rattle.endpoint_core.specs.Queues.{count_at, nothing}
use Rattle.endpoint_core.specs.Sites.{IsHome, IsSound, Keeps, home}
use Rattle.context_core.specs.Context.{HasQueues, Holding, IsContext, context_in}
use Rattle.context_core.specs.Faults.{refusal_of}
use Rattle.context_core.specs.Requests.{TakesRequest, post_causes}
use Rattle.context_core.proofs.ReservedSteps.{ok-below}
use Rattle.context_core.proofs.PostedSends.{IsAsked, asked-new, asked-sound, found-refused, more-causes, sends, sent-is}
use Rattle.context_core.proofs.SendRefusals.{if-there}
use Rattle.context_core.proofs.EndSteps.{site_after}
use Rattle.context_core.proofs.EndStepCalls.{each-at, entry, entry-there}
use Rattle.context_core.proofs.state.ContextState.post_send.Goals as goal

pub admitted-requires-clause-sound : goal.admitted-requires-clause-sound
admitted-requires-clause-sound c =
    (c.args.pool.now, (subst (IsContext c.args.pool.now) (sym c.self.view_is) c.requires.is).is.ends)

pub returns-in_err-place-clause-refused : goal.returns-in_err-place-clause-refused
returns-in_err-place-clause-refused c =
    λ n d free.
    let p = err_from_is_err_and c.from_residual.result c.from_residual.ensures.1 in
    rw (p.1, p.2) (more-causes (end_causes (context_in c.args.pool.now n c.args.self.now) c.args.name (post_causes (context_in c.args.pool.now n c.args.self.now) (end_at (context_in c.args.pool.now n c.args.self.now) c.args.name) c.args.request.now)) _ c.in_err-place.field-0.0 (ap result_err (sym c.in_err-place.was) ∙ c.admitted.ensures.refused c.args.pool.now n c.args.self.now c.requires.is (ap {A = Holding} (λ h. h.regions) (sym c.self.view_is)) (ap {A = Holding} (λ h. h.queues) (sym c.self.view_is)) (ap {A = Holding} (λ h. h.ends) (sym c.self.view_is))))

pub taken-requires-clause-inside : goal.taken-requires-clause-inside
taken-requires-clause-inside c =
    if-there c.self.inside.ends.entries c.in_ok-place.place (λ e. TakesRequest c.self.inside.regions c.self.inside.queues.entries e.1 c.args.request.now c.in_ok-place.source) _ c.in_ok-place.ensures.there c.in_ok-place.ensures.takes (λ e t. t.source.inside)

pub returns-in_err-payload-clause-refused : goal.returns-in_err-payload-clause-refused
returns-in_err-payload-clause-refused c = rw (← c.self.view_is) (λ n d free.
    let p = err_from_is_err_and c.from_residual-in_err-payload.result c.from_residual-in_err-payload.ensures.1 in
    rw (p.1, p.2) (ap refusal_of (sym c.in_err-payload.was) ∙ (c.taken.ensures.refused ∙ found-refused c.args.pool.now n d (record { domains = c.self.inside.domains.keys; regions = c.self.inside.regions; queues = c.self.inside.queues.entries; ends = c.self.inside.ends.entries }) c.args.name c.in_ok-place.place c.args.request.now c.in_ok-place.source (subst (IsContext c.args.pool.now) (sym c.self.view_is) c.requires.is) c.in_ok-place.ensures.place c.in_ok-place.ensures.there c.in_ok-place.ensures.takes free (ap result_err (sym c.in_ok-place.was) ∙ c.admitted.ensures.refused c.args.pool.now n (record { domains = c.self.inside.domains.keys; regions = c.self.inside.regions; queues = c.self.inside.queues.entries; ends = c.self.inside.ends.entries }) (subst (IsContext c.args.pool.now) (sym c.self.view_is) c.requires.is) refl refl refl))))

pub reserve-requires-clause-room : goal.reserve-requires-clause-room
reserve-requires-clause-room c =
    (subst (λ o. IfSome o (λ e. TakesRequest c.self.inside.regions c.self.inside.queues.entries e.1 c.args.request.now c.in_ok-place.source)) (entry-there c.self.inside.ends.entries c.in_ok-place.place c.unwrap-slot.result.now (sym c.get_index_mut.ensures.value ∙ ap option_copied_mut c.unwrap-slot.ensures)) c.in_ok-place.ensures.takes).room

pub reserve-requires-clause-there : goal.reserve-requires-clause-there
reserve-requires-clause-there c =
    (each-at (HasQueues c.self.inside.queues.entries) c.self.inside.ends.entries c.in_ok-place.place (entry c.self.inside.ends.entries c.in_ok-place.place c.unwrap-slot.result.now) (recursion_from_All (HasQueues c.self.inside.queues.entries) c.self.inside.ends.entries (subst (IsContext c.args.pool.now) (sym c.self.view_is) c.requires.is).is.placed) (entry-there c.self.inside.ends.entries c.in_ok-place.place c.unwrap-slot.result.now (sym c.get_index_mut.ensures.value ∙ ap option_copied_mut c.unwrap-slot.ensures))).0

pub post_send-requires-clause-connected : goal.post_send-requires-clause-connected
post_send-requires-clause-connected c =
    (subst (λ o. IfSome o (λ e. TakesRequest c.self.inside.regions c.self.inside.queues.entries e.1 c.args.request.now c.in_ok-place.source)) (entry-there c.self.inside.ends.entries c.in_ok-place.place c.unwrap-slot.result.now (sym c.get_index_mut.ensures.value ∙ ap option_copied_mut c.unwrap-slot.ensures)) c.in_ok-place.ensures.takes).linked

pub post_send-requires-clause-sound : goal.post_send-requires-clause-sound
post_send-requires-clause-sound c =
    let g : IsAsked c.args.pool.now c.taken.new.pool (record { domains = c.self.inside.domains.keys; regions = c.self.inside.regions; queues = c.self.inside.queues.entries; ends = c.self.inside.ends.entries }) c.reserve.new.queues.entries c.in_ok-place.place c.unwrap-slot.result.now c.args.request.now c.in_ok-place.source c.in_ok-payload.payload = record {
      is = (subst (IsContext c.args.pool.now) (sym c.self.view_is) c.requires.is);
      value = (sym c.get_index_mut.ensures.value ∙ ap option_copied_mut c.unwrap-slot.ensures);
      shape = c.requires.shape;
      takes = (subst (λ o. IfSome o (λ e. TakesRequest c.self.inside.regions c.self.inside.queues.entries e.1 c.args.request.now c.in_ok-place.source)) (entry-there c.self.inside.ends.entries c.in_ok-place.place c.unwrap-slot.result.now (sym c.get_index_mut.ensures.value ∙ ap option_copied_mut c.unwrap-slot.ensures)) c.in_ok-place.ensures.takes);
      taken = c.in_ok-payload.ensures.taken;
      reserved = c.reserve.ensures;
    } in
    asked-sound g c.taken.new.regions c.taken.ensures.same

pub post_send-requires-clause-new : goal.post_send-requires-clause-new
post_send-requires-clause-new c =
    let g : IsAsked c.args.pool.now c.taken.new.pool (record { domains = c.self.inside.domains.keys; regions = c.self.inside.regions; queues = c.self.inside.queues.entries; ends = c.self.inside.ends.entries }) c.reserve.new.queues.entries c.in_ok-place.place c.unwrap-slot.result.now c.args.request.now c.in_ok-place.source c.in_ok-payload.payload = record {
      is = (subst (IsContext c.args.pool.now) (sym c.self.view_is) c.requires.is);
      value = (sym c.get_index_mut.ensures.value ∙ ap option_copied_mut c.unwrap-slot.ensures);
      shape = c.requires.shape;
      takes = (subst (λ o. IfSome o (λ e. TakesRequest c.self.inside.regions c.self.inside.queues.entries e.1 c.args.request.now c.in_ok-place.source)) (entry-there c.self.inside.ends.entries c.in_ok-place.place c.unwrap-slot.result.now (sym c.get_index_mut.ensures.value ∙ ap option_copied_mut c.unwrap-slot.ensures)) c.in_ok-place.ensures.takes);
      taken = c.in_ok-payload.ensures.taken;
      reserved = c.reserve.ensures;
    } in
    asked-new g c.taken.new.regions c.taken.ensures.same

pub unwrap-requires : goal.unwrap-requires
unwrap-requires c =
    ok-below c.post_send.result _ _ c.post_send.ensures.full (subst (λ o. IfSome o (λ e. TakesRequest c.self.inside.regions c.self.inside.queues.entries e.1 c.args.request.now c.in_ok-place.source)) (entry-there c.self.inside.ends.entries c.in_ok-place.place c.unwrap-slot.result.now (sym c.get_index_mut.ensures.value ∙ ap option_copied_mut c.unwrap-slot.ensures)) c.in_ok-place.ensures.takes).depth

pub returns-clause-refused : goal.returns-clause-refused
returns-clause-refused c = rw (← c.self.view_is) (λ n d free. ap refusal_of (sym c.in_ok-payload.was) ∙ (c.taken.ensures.refused ∙ found-refused c.args.pool.now n d (record { domains = c.self.inside.domains.keys; regions = c.self.inside.regions; queues = c.self.inside.queues.entries; ends = c.self.inside.ends.entries }) c.args.name c.in_ok-place.place c.args.request.now c.in_ok-place.source (subst (IsContext c.args.pool.now) (sym c.self.view_is) c.requires.is) c.in_ok-place.ensures.place c.in_ok-place.ensures.there c.in_ok-place.ensures.takes free (ap result_err (sym c.in_ok-place.was) ∙ c.admitted.ensures.refused c.args.pool.now n (record { domains = c.self.inside.domains.keys; regions = c.self.inside.regions; queues = c.self.inside.queues.entries; ends = c.self.inside.ends.entries }) (subst (IsContext c.args.pool.now) (sym c.self.view_is) c.requires.is) refl refl refl)))

pub returns-clause-is : goal.returns-clause-is
returns-clause-is c =
    let g : IsAsked c.args.pool.now c.taken.new.pool (record { domains = c.self.inside.domains.keys; regions = c.self.inside.regions; queues = c.self.inside.queues.entries; ends = c.self.inside.ends.entries }) c.reserve.new.queues.entries c.in_ok-place.place c.unwrap-slot.result.now c.args.request.now c.in_ok-place.source c.in_ok-payload.payload = record {
      is = (subst (IsContext c.args.pool.now) (sym c.self.view_is) c.requires.is);
      value = (sym c.get_index_mut.ensures.value ∙ ap option_copied_mut c.unwrap-slot.ensures);
      shape = c.requires.shape;
      takes = (subst (λ o. IfSome o (λ e. TakesRequest c.self.inside.regions c.self.inside.queues.entries e.1 c.args.request.now c.in_ok-place.source)) (entry-there c.self.inside.ends.entries c.in_ok-place.place c.unwrap-slot.result.now (sym c.get_index_mut.ensures.value ∙ ap option_copied_mut c.unwrap-slot.ensures)) c.in_ok-place.ensures.takes);
      taken = c.in_ok-payload.ensures.taken;
      reserved = c.reserve.ensures;
    } in
    let s = sends g c.post_send.new.memory.0 c.post_send.new.memory.1.0 c.post_send.new.memory.1.1.0.entries c.post_send.new.self c.taken.new.regions c.taken.ensures.same
    (IfOk-at_ok (λ u. is_ended_link c.unwrap-slot.result.now.endpoint.link ≡ true → c.post_send.new.self ≡ c.unwrap-slot.result.now.endpoint) c.unwrap.ensures c.post_send.ensures.still)
    (IfOk-at_ok (λ u. Keeps (record { pool = c.taken.new.pool; held = c.taken.new.regions; queues = c.reserve.new.queues.entries; send = c.unwrap-slot.result.now.send; recv = c.unwrap-slot.result.now.recv; end = c.unwrap-slot.result.now.endpoint }) (site_after c.post_send.new.memory.0 (entry c.self.inside.ends.entries c.in_ok-place.place c.unwrap-slot.result.now) c.post_send.new.memory.1.0 c.post_send.new.memory.1.1.0.entries c.post_send.new.self) ((record { request = c.args.request.now; payload = c.in_ok-payload.payload }) ∷ []) (count_at c.unwrap-slot.result.now.send 1)) c.unwrap.ensures c.post_send.ensures.keeps)
    (IfOk-at_ok (λ u. IsSound (site_after c.post_send.new.memory.0 (entry c.self.inside.ends.entries c.in_ok-place.place c.unwrap-slot.result.now) c.post_send.new.memory.1.0 c.post_send.new.memory.1.1.0.entries c.post_send.new.self) nothing) c.unwrap.ensures c.post_send.ensures.sound) in
    s.is

pub returns-clause-moves : goal.returns-clause-moves
returns-clause-moves c =
    let g : IsAsked c.args.pool.now c.taken.new.pool (record { domains = c.self.inside.domains.keys; regions = c.self.inside.regions; queues = c.self.inside.queues.entries; ends = c.self.inside.ends.entries }) c.reserve.new.queues.entries c.in_ok-place.place c.unwrap-slot.result.now c.args.request.now c.in_ok-place.source c.in_ok-payload.payload = record {
      is = (subst (IsContext c.args.pool.now) (sym c.self.view_is) c.requires.is);
      value = (sym c.get_index_mut.ensures.value ∙ ap option_copied_mut c.unwrap-slot.ensures);
      shape = c.requires.shape;
      takes = (subst (λ o. IfSome o (λ e. TakesRequest c.self.inside.regions c.self.inside.queues.entries e.1 c.args.request.now c.in_ok-place.source)) (entry-there c.self.inside.ends.entries c.in_ok-place.place c.unwrap-slot.result.now (sym c.get_index_mut.ensures.value ∙ ap option_copied_mut c.unwrap-slot.ensures)) c.in_ok-place.ensures.takes);
      taken = c.in_ok-payload.ensures.taken;
      reserved = c.reserve.ensures;
    } in
    let s = sends g c.post_send.new.memory.0 c.post_send.new.memory.1.0 c.post_send.new.memory.1.1.0.entries c.post_send.new.self c.taken.new.regions c.taken.ensures.same
    (IfOk-at_ok (λ u. is_ended_link c.unwrap-slot.result.now.endpoint.link ≡ true → c.post_send.new.self ≡ c.unwrap-slot.result.now.endpoint) c.unwrap.ensures c.post_send.ensures.still)
    (IfOk-at_ok (λ u. Keeps (record { pool = c.taken.new.pool; held = c.taken.new.regions; queues = c.reserve.new.queues.entries; send = c.unwrap-slot.result.now.send; recv = c.unwrap-slot.result.now.recv; end = c.unwrap-slot.result.now.endpoint }) (site_after c.post_send.new.memory.0 (entry c.self.inside.ends.entries c.in_ok-place.place c.unwrap-slot.result.now) c.post_send.new.memory.1.0 c.post_send.new.memory.1.1.0.entries c.post_send.new.self) ((record { request = c.args.request.now; payload = c.in_ok-payload.payload }) ∷ []) (count_at c.unwrap-slot.result.now.send 1)) c.unwrap.ensures c.post_send.ensures.keeps)
    (IfOk-at_ok (λ u. IsSound (site_after c.post_send.new.memory.0 (entry c.self.inside.ends.entries c.in_ok-place.place c.unwrap-slot.result.now) c.post_send.new.memory.1.0 c.post_send.new.memory.1.1.0.entries c.post_send.new.self) nothing) c.unwrap.ensures c.post_send.ensures.sound) in
    rw (← c.self.view_is) s.moves

pub returns-clause-numbers : goal.returns-clause-numbers
returns-clause-numbers c =
    let g : IsAsked c.args.pool.now c.taken.new.pool (record { domains = c.self.inside.domains.keys; regions = c.self.inside.regions; queues = c.self.inside.queues.entries; ends = c.self.inside.ends.entries }) c.reserve.new.queues.entries c.in_ok-place.place c.unwrap-slot.result.now c.args.request.now c.in_ok-place.source c.in_ok-payload.payload = record {
      is = (subst (IsContext c.args.pool.now) (sym c.self.view_is) c.requires.is);
      value = (sym c.get_index_mut.ensures.value ∙ ap option_copied_mut c.unwrap-slot.ensures);
      shape = c.requires.shape;
      takes = (subst (λ o. IfSome o (λ e. TakesRequest c.self.inside.regions c.self.inside.queues.entries e.1 c.args.request.now c.in_ok-place.source)) (entry-there c.self.inside.ends.entries c.in_ok-place.place c.unwrap-slot.result.now (sym c.get_index_mut.ensures.value ∙ ap option_copied_mut c.unwrap-slot.ensures)) c.in_ok-place.ensures.takes);
      taken = c.in_ok-payload.ensures.taken;
      reserved = c.reserve.ensures;
    } in
    let s = sends g c.post_send.new.memory.0 c.post_send.new.memory.1.0 c.post_send.new.memory.1.1.0.entries c.post_send.new.self c.taken.new.regions c.taken.ensures.same
    (IfOk-at_ok (λ u. is_ended_link c.unwrap-slot.result.now.endpoint.link ≡ true → c.post_send.new.self ≡ c.unwrap-slot.result.now.endpoint) c.unwrap.ensures c.post_send.ensures.still)
    (IfOk-at_ok (λ u. Keeps (record { pool = c.taken.new.pool; held = c.taken.new.regions; queues = c.reserve.new.queues.entries; send = c.unwrap-slot.result.now.send; recv = c.unwrap-slot.result.now.recv; end = c.unwrap-slot.result.now.endpoint }) (site_after c.post_send.new.memory.0 (entry c.self.inside.ends.entries c.in_ok-place.place c.unwrap-slot.result.now) c.post_send.new.memory.1.0 c.post_send.new.memory.1.1.0.entries c.post_send.new.self) ((record { request = c.args.request.now; payload = c.in_ok-payload.payload }) ∷ []) (count_at c.unwrap-slot.result.now.send 1)) c.unwrap.ensures c.post_send.ensures.keeps)
    (IfOk-at_ok (λ u. IsSound (site_after c.post_send.new.memory.0 (entry c.self.inside.ends.entries c.in_ok-place.place c.unwrap-slot.result.now) c.post_send.new.memory.1.0 c.post_send.new.memory.1.1.0.entries c.post_send.new.self) nothing) c.unwrap.ensures c.post_send.ensures.sound) in
    rw (← c.self.view_is) s.numbers

pub returns-clause-posted : goal.returns-clause-posted
returns-clause-posted c =
    let g : IsAsked c.args.pool.now c.taken.new.pool (record { domains = c.self.inside.domains.keys; regions = c.self.inside.regions; queues = c.self.inside.queues.entries; ends = c.self.inside.ends.entries }) c.reserve.new.queues.entries c.in_ok-place.place c.unwrap-slot.result.now c.args.request.now c.in_ok-place.source c.in_ok-payload.payload = record {
      is = (subst (IsContext c.args.pool.now) (sym c.self.view_is) c.requires.is);
      value = (sym c.get_index_mut.ensures.value ∙ ap option_copied_mut c.unwrap-slot.ensures);
      shape = c.requires.shape;
      takes = (subst (λ o. IfSome o (λ e. TakesRequest c.self.inside.regions c.self.inside.queues.entries e.1 c.args.request.now c.in_ok-place.source)) (entry-there c.self.inside.ends.entries c.in_ok-place.place c.unwrap-slot.result.now (sym c.get_index_mut.ensures.value ∙ ap option_copied_mut c.unwrap-slot.ensures)) c.in_ok-place.ensures.takes);
      taken = c.in_ok-payload.ensures.taken;
      reserved = c.reserve.ensures;
    } in
    let s = sends g c.post_send.new.memory.0 c.post_send.new.memory.1.0 c.post_send.new.memory.1.1.0.entries c.post_send.new.self c.taken.new.regions c.taken.ensures.same
    (IfOk-at_ok (λ u. is_ended_link c.unwrap-slot.result.now.endpoint.link ≡ true → c.post_send.new.self ≡ c.unwrap-slot.result.now.endpoint) c.unwrap.ensures c.post_send.ensures.still)
    (IfOk-at_ok (λ u. Keeps (record { pool = c.taken.new.pool; held = c.taken.new.regions; queues = c.reserve.new.queues.entries; send = c.unwrap-slot.result.now.send; recv = c.unwrap-slot.result.now.recv; end = c.unwrap-slot.result.now.endpoint }) (site_after c.post_send.new.memory.0 (entry c.self.inside.ends.entries c.in_ok-place.place c.unwrap-slot.result.now) c.post_send.new.memory.1.0 c.post_send.new.memory.1.1.0.entries c.post_send.new.self) ((record { request = c.args.request.now; payload = c.in_ok-payload.payload }) ∷ []) (count_at c.unwrap-slot.result.now.send 1)) c.unwrap.ensures c.post_send.ensures.keeps)
    (IfOk-at_ok (λ u. IsSound (site_after c.post_send.new.memory.0 (entry c.self.inside.ends.entries c.in_ok-place.place c.unwrap-slot.result.now) c.post_send.new.memory.1.0 c.post_send.new.memory.1.1.0.entries c.post_send.new.self) nothing) c.unwrap.ensures c.post_send.ensures.sound) in
    rw (← c.self.view_is) (sent-is g c.post_send.new.memory.0 c.post_send.new.memory.1.0 c.post_send.new.memory.1.1.0.entries c.post_send.new.self c.taken.new.regions c.args.name c.taken.ensures.same s c.in_ok-place.ensures.place
    (IfOk-at_ok (λ u. (k : Context) (names : Names) → IsHome k names (record { pool = c.taken.new.pool; held = c.taken.new.regions; queues = c.reserve.new.queues.entries; send = c.unwrap-slot.result.now.send; recv = c.unwrap-slot.result.now.recv; end = c.unwrap-slot.result.now.endpoint }) → posted_by k (end_in c.taken.new.pool names c.unwrap-slot.result.now.endpoint) (option_map (link_in c.taken.new.pool) c.unwrap-slot.result.now.endpoint.link) (posted_in c.taken.new.pool (record { request = c.args.request.now; payload = c.in_ok-payload.payload })) ≡ home k names (site_after c.post_send.new.memory.0 (entry c.self.inside.ends.entries c.in_ok-place.place c.unwrap-slot.result.now) c.post_send.new.memory.1.0 c.post_send.new.memory.1.1.0.entries c.post_send.new.self)) c.unwrap.ensures c.post_send.ensures.step))
