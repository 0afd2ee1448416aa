use Rattle.std.proofs.Common.{sym, ap, ◌∙◌, refl}
use Rattle.std.specs.Option.{option_copied_mut}
use Rattle.std.specs.Prelude.{map, if◌then◌else◌}
use Rattle.std.specs.Result.{result_err}
use Rattle.std.proofs.lemmas.Result.{err_from_is_err_and}
use Rattle.rdma_types.specs.declared.answers.Answer.TheVariants as answer
use Rattle.protocol.specs.DeviceStep.{answers, rnr_over, with_context}
use Rattle.endpoint_core.specs.Queues.{nothing}
use Rattle.context_core.specs.Context.{Holding, context_in, end_of, names_in, site_in}
use Rattle.context_core.proofs.EndsByName.{end-found, if-shown, some-shown}
use Rattle.context_core.proofs.EndRules.{rnr-is}
use Rattle.context_core.proofs.EndSteps.{after}
use Rattle.context_core.proofs.EndStepCalls.{end-sound, entry, entry-there, is-linked, lists-still, numbers-still, pages-still, still}
use Rattle.context_core.proofs.state.ContextState.rnr_over.Goals as goal

pub returns-in_err-place-clause-refused : goal.returns-in_err-place-clause-refused
unfolding context_in
returns-in_err-place-clause-refused c = λ pool n.
    let p = err_from_is_err_and c.from_residual.result c.from_residual.ensures.1 in
    rw (p.1, p.2) (ap result_err (sym c.in_err-place.was) ∙ c.connected.ensures.refused pool c.self.inside.queues.entries (context_in pool n c.args.self.now) (ap {A = Holding} (λ h. map (end_of pool h.queues) h.ends) (sym c.self.view_is)))

pub rnr_over-requires : goal.rnr_over-requires
rnr_over-requires c = record { connected = is-linked _ c.in_ok-place.place c.unwrap-slot.result.now (sym c.get_index_mut.ensures.value ∙ ap option_copied_mut c.unwrap-slot.ensures) c.in_ok-place.ensures.linked }

pub returns-clause-refused : goal.returns-clause-refused
unfolding context_in
returns-clause-refused c = λ pool n. ap result_err (sym c.in_ok-place.was) ∙ c.connected.ensures.refused pool c.self.inside.queues.entries (context_in pool n c.args.self.now) (ap {A = Holding} (λ h. map (end_of pool h.queues) h.ends) (sym c.self.view_is))

pub returns-clause-is : goal.returns-clause-is
returns-clause-is c = rw (← c.self.view_is) (λ pool is. (still pool _ c.in_ok-place.place c.unwrap-slot.result.now c.rnr_over.new.self is (sym c.get_index_mut.ensures.value ∙ ap option_copied_mut c.unwrap-slot.ensures) c.rnr_over.ensures.end c.rnr_over.ensures.untold c.rnr_over.ensures.reserved (c.rnr_over.ensures.sound pool _ (end-sound pool _ nothing c.in_ok-place.place (entry _ c.in_ok-place.place c.unwrap-slot.result.now) is.is (entry-there _ c.in_ok-place.place c.unwrap-slot.result.now (sym c.get_index_mut.ensures.value ∙ ap option_copied_mut c.unwrap-slot.ensures))).end)).is)

pub returns-clause-lists : goal.returns-clause-lists
returns-clause-lists c = rw (← c.self.view_is) (lists-still _ c.in_ok-place.place c.unwrap-slot.result.now c.rnr_over.new.self (sym c.get_index_mut.ensures.value ∙ ap option_copied_mut c.unwrap-slot.ensures) c.rnr_over.ensures.untold)

pub returns-clause-pages : goal.returns-clause-pages
returns-clause-pages c = rw (← c.self.view_is) (λ pool n is. pages-still pool n _ _ (still pool _ c.in_ok-place.place c.unwrap-slot.result.now c.rnr_over.new.self is (sym c.get_index_mut.ensures.value ∙ ap option_copied_mut c.unwrap-slot.ensures) c.rnr_over.ensures.end c.rnr_over.ensures.untold c.rnr_over.ensures.reserved (c.rnr_over.ensures.sound pool _ (end-sound pool _ nothing c.in_ok-place.place (entry _ c.in_ok-place.place c.unwrap-slot.result.now) is.is (entry-there _ c.in_ok-place.place c.unwrap-slot.result.now (sym c.get_index_mut.ensures.value ∙ ap option_copied_mut c.unwrap-slot.ensures))).end)).moves)

pub returns-clause-numbers : goal.returns-clause-numbers
returns-clause-numbers c = rw (← c.self.view_is) (λ pool n. numbers-still pool pool n _ c.in_ok-place.place c.unwrap-slot.result.now c.self.inside.regions c.self.inside.queues.entries c.rnr_over.new.self (sym c.get_index_mut.ensures.value ∙ ap option_copied_mut c.unwrap-slot.ensures) c.rnr_over.ensures.end.number)

pub returns-clause-over : goal.returns-clause-over
unfolding context_in
returns-clause-over c = rw (← c.self.view_is) (λ pool n d is same.
    let value = (sym c.get_index_mut.ensures.value ∙ ap option_copied_mut c.unwrap-slot.ensures) in
    let st = still pool _ c.in_ok-place.place c.unwrap-slot.result.now c.rnr_over.new.self is (sym c.get_index_mut.ensures.value ∙ ap option_copied_mut c.unwrap-slot.ensures) c.rnr_over.ensures.end c.rnr_over.ensures.untold c.rnr_over.ensures.reserved (c.rnr_over.ensures.sound pool _ (end-sound pool _ nothing c.in_ok-place.place (entry _ c.in_ok-place.place c.unwrap-slot.result.now) is.is (entry-there _ c.in_ok-place.place c.unwrap-slot.result.now (sym c.get_index_mut.ensures.value ∙ ap option_copied_mut c.unwrap-slot.ensures))).end) in
    let found = end-found pool c.self.inside.queues.entries c.self.inside.ends.entries c.args.name c.in_ok-place.place (entry c.self.inside.ends.entries c.in_ok-place.place c.unwrap-slot.result.now) is.is.end_names c.in_ok-place.ensures.place (entry-there c.self.inside.ends.entries c.in_ok-place.place c.unwrap-slot.result.now value) in
    let linked = some-shown pool c.unwrap-slot.result.now.endpoint.link (is-linked _ c.in_ok-place.place c.unwrap-slot.result.now value c.in_ok-place.ensures.linked) in
    let home = st.stands n in
    ap (rnr_over d (context_in pool n (record { domains = c.self.inside.domains.keys; regions = c.self.inside.regions; queues = c.self.inside.queues.entries; ends = c.self.inside.ends.entries }))) found.end
    ∙ (rnr-is d (context_in pool n (record { domains = c.self.inside.domains.keys; regions = c.self.inside.regions; queues = c.self.inside.queues.entries; ends = c.self.inside.ends.entries })) (end_of pool c.self.inside.queues.entries (entry c.self.inside.ends.entries c.in_ok-place.place c.unwrap-slot.result.now)) c.rnr_over.result linked (if-shown pool c.unwrap-slot.result.now.endpoint.link c.rnr_over.result c.rnr_over.ensures.waited) same home.there
    ∙ (ap (λ x. answers (with_context d x) (if c.rnr_over.result then answer.Over else answer.NotWaiting)) (c.rnr_over.ensures.step (site_in pool (record { domains = c.self.inside.domains.keys; regions = c.self.inside.regions; queues = c.self.inside.queues.entries; ends = c.self.inside.ends.entries }) (entry c.self.inside.ends.entries c.in_ok-place.place c.unwrap-slot.result.now)) refl (context_in pool n (record { domains = c.self.inside.domains.keys; regions = c.self.inside.regions; queues = c.self.inside.queues.entries; ends = c.self.inside.ends.entries })) (names_in c.self.inside.queues.entries (entry c.self.inside.ends.entries c.in_ok-place.place c.unwrap-slot.result.now)) home ∙ st.shown n)
    ∙ ap (λ a. answers (with_context d (context_in pool n (after (record { domains = c.self.inside.domains.keys; regions = c.self.inside.regions; queues = c.self.inside.queues.entries; ends = c.self.inside.ends.entries }) c.in_ok-place.place (entry c.self.inside.ends.entries c.in_ok-place.place c.unwrap-slot.result.now) c.self.inside.regions c.self.inside.queues.entries c.rnr_over.new.self))) a) (sym c.over.ensures))))
