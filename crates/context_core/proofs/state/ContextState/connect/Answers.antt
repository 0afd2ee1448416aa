use Rattle.std.proofs.Common.{◌≡◌, ℕ, List, sym, subst, ap, ◌∙◌, refl}
use Rattle.std.specs.Option.{option_copied_mut}
use Rattle.std.specs.Prelude.{map}
use Rattle.std.specs.Result.{result_err}
use Rattle.std.proofs.lemmas.Result.{IfOk-at_ok, err_from_is_err_and}
use Rattle.rdma_types.specs.declared.answers.Answer.TheVariants as answer
use Rattle.page_pool.specs.Pool.{Pool}
use Rattle.memory_keys.specs.declared.RegisteredRegion.{RegisteredRegion}
use Rattle.protocol.specs.DeviceStep.{answers, connects, with_context}
use Rattle.protocol.specs.EndWords.{linked}
use Rattle.protocol.specs.State.{Context, fresh_link}
use Rattle.endpoint_core.specs.Ends.{Names}
use Rattle.endpoint_core.specs.Queues.{nothing, promised}
use Rattle.endpoint_core.specs.Sites.{IsHome, EndWithMemory, end_at, home}
use Rattle.endpoint_core.specs.Sound.{IsEnd}
use Rattle.context_core.specs.Context.{Holding, IsContext, context_in, end_of, names_in, site_in}
use Rattle.context_core.proofs.EndsByName.{end-found}
use Rattle.context_core.proofs.EndStepCalls.{end-sound, entry, entry-there, is-unlinked, lists-still, numbers-still, ok-where, pages-still, still, untold-none}
use Rattle.context_core.proofs.state.ContextState.connect.Goals as goal

pub returns-in_err-place-clause-refused : goal.returns-in_err-place-clause-refused
unfolding context_in
returns-in_err-place-clause-refused c = λ pool n.
    let p = err_from_is_err_and c.from_residual.result c.from_residual.ensures.1 in
    rw (p.1, p.2) (ap result_err (sym c.in_err-place.was) ∙ c.unconnected.ensures.refused pool c.self.inside.queues.entries (context_in pool n c.args.self.now) (ap {A = Holding} (λ h. map (end_of pool h.queues) h.ends) (sym c.self.view_is)))

pub connect-requires-clause-queue : goal.connect-requires-clause-queue
connect-requires-clause-queue c =
    let is = subst (IsContext c.requires.is.0) (sym c.self.view_is) c.requires.is.1 in
    (end-sound c.requires.is.0 _ nothing c.in_ok-place.place (entry _ c.in_ok-place.place c.unwrap-slot.result.now) is.is (entry-there _ c.in_ok-place.place c.unwrap-slot.result.now (sym c.get_index_mut.ensures.value ∙ ap option_copied_mut c.unwrap-slot.ensures))).end.queue

pub unwrap-requires : goal.unwrap-requires
unwrap-requires c = ok-where c.connect.result c.unwrap-slot.result.now.endpoint.link c.connect.ensures.state (is-unlinked _ c.in_ok-place.place c.unwrap-slot.result.now (sym c.get_index_mut.ensures.value ∙ ap option_copied_mut c.unwrap-slot.ensures) c.in_ok-place.ensures.init)

pub returns-clause-refused : goal.returns-clause-refused
unfolding context_in
returns-clause-refused c = λ pool n. ap result_err (sym c.in_ok-place.was) ∙ c.unconnected.ensures.refused pool c.self.inside.queues.entries (context_in pool n c.args.self.now) (ap {A = Holding} (λ h. map (end_of pool h.queues) h.ends) (sym c.self.view_is))

pub returns-clause-is : goal.returns-clause-is
returns-clause-is c = rw (← c.self.view_is) (λ pool is. (still pool _ c.in_ok-place.place c.unwrap-slot.result.now c.connect.new.self is (sym c.get_index_mut.ensures.value ∙ ap option_copied_mut c.unwrap-slot.ensures) c.connect.ensures.end (untold-none c.unwrap-slot.result.now.endpoint c.connect.new.self (is-unlinked _ c.in_ok-place.place c.unwrap-slot.result.now (sym c.get_index_mut.ensures.value ∙ ap option_copied_mut c.unwrap-slot.ensures) c.in_ok-place.ensures.init) (IfOk-at_ok (λ u. (send recv place : ℕ) → promised send recv c.connect.new.self place ≡ promised send recv c.unwrap-slot.result.now.endpoint place) c.unwrap.ensures c.connect.ensures.reserved)) (IfOk-at_ok (λ u. (send recv place : ℕ) → promised send recv c.connect.new.self place ≡ promised send recv c.unwrap-slot.result.now.endpoint place) c.unwrap.ensures c.connect.ensures.reserved) ((IfOk-at_ok (λ u. (pool : Pool) (held : List RegisteredRegion) → IsEnd pool held c.unwrap-slot.result.now.endpoint → IsEnd pool held c.connect.new.self) c.unwrap.ensures c.connect.ensures.sound) pool _ (end-sound pool _ nothing c.in_ok-place.place (entry _ c.in_ok-place.place c.unwrap-slot.result.now) is.is (entry-there _ c.in_ok-place.place c.unwrap-slot.result.now (sym c.get_index_mut.ensures.value ∙ ap option_copied_mut c.unwrap-slot.ensures))).end)).is)

pub returns-clause-lists : goal.returns-clause-lists
returns-clause-lists c = rw (← c.self.view_is) (lists-still _ c.in_ok-place.place c.unwrap-slot.result.now c.connect.new.self (sym c.get_index_mut.ensures.value ∙ ap option_copied_mut c.unwrap-slot.ensures) (untold-none c.unwrap-slot.result.now.endpoint c.connect.new.self (is-unlinked _ c.in_ok-place.place c.unwrap-slot.result.now (sym c.get_index_mut.ensures.value ∙ ap option_copied_mut c.unwrap-slot.ensures) c.in_ok-place.ensures.init) (IfOk-at_ok (λ u. (send recv place : ℕ) → promised send recv c.connect.new.self place ≡ promised send recv c.unwrap-slot.result.now.endpoint place) c.unwrap.ensures c.connect.ensures.reserved)))

pub returns-clause-pages : goal.returns-clause-pages
returns-clause-pages c = rw (← c.self.view_is) (λ pool n is. pages-still pool n _ _ (still pool _ c.in_ok-place.place c.unwrap-slot.result.now c.connect.new.self is (sym c.get_index_mut.ensures.value ∙ ap option_copied_mut c.unwrap-slot.ensures) c.connect.ensures.end (untold-none c.unwrap-slot.result.now.endpoint c.connect.new.self (is-unlinked _ c.in_ok-place.place c.unwrap-slot.result.now (sym c.get_index_mut.ensures.value ∙ ap option_copied_mut c.unwrap-slot.ensures) c.in_ok-place.ensures.init) (IfOk-at_ok (λ u. (send recv place : ℕ) → promised send recv c.connect.new.self place ≡ promised send recv c.unwrap-slot.result.now.endpoint place) c.unwrap.ensures c.connect.ensures.reserved)) (IfOk-at_ok (λ u. (send recv place : ℕ) → promised send recv c.connect.new.self place ≡ promised send recv c.unwrap-slot.result.now.endpoint place) c.unwrap.ensures c.connect.ensures.reserved) ((IfOk-at_ok (λ u. (pool : Pool) (held : List RegisteredRegion) → IsEnd pool held c.unwrap-slot.result.now.endpoint → IsEnd pool held c.connect.new.self) c.unwrap.ensures c.connect.ensures.sound) pool _ (end-sound pool _ nothing c.in_ok-place.place (entry _ c.in_ok-place.place c.unwrap-slot.result.now) is.is (entry-there _ c.in_ok-place.place c.unwrap-slot.result.now (sym c.get_index_mut.ensures.value ∙ ap option_copied_mut c.unwrap-slot.ensures))).end)).moves)

pub returns-clause-numbers : goal.returns-clause-numbers
returns-clause-numbers c = rw (← c.self.view_is) (λ pool n. numbers-still pool pool n _ c.in_ok-place.place c.unwrap-slot.result.now c.self.inside.regions c.self.inside.queues.entries c.connect.new.self (sym c.get_index_mut.ensures.value ∙ ap option_copied_mut c.unwrap-slot.ensures) c.connect.ensures.end.number)

pub returns-clause-connected : goal.returns-clause-connected
unfolding context_in connects
returns-clause-connected c = rw (← c.self.view_is) (λ pool n d is.
    let value = (sym c.get_index_mut.ensures.value ∙ ap option_copied_mut c.unwrap-slot.ensures) in
    let st = still pool _ c.in_ok-place.place c.unwrap-slot.result.now c.connect.new.self is (sym c.get_index_mut.ensures.value ∙ ap option_copied_mut c.unwrap-slot.ensures) c.connect.ensures.end (untold-none c.unwrap-slot.result.now.endpoint c.connect.new.self (is-unlinked _ c.in_ok-place.place c.unwrap-slot.result.now (sym c.get_index_mut.ensures.value ∙ ap option_copied_mut c.unwrap-slot.ensures) c.in_ok-place.ensures.init) (IfOk-at_ok (λ u. (send recv place : ℕ) → promised send recv c.connect.new.self place ≡ promised send recv c.unwrap-slot.result.now.endpoint place) c.unwrap.ensures c.connect.ensures.reserved)) (IfOk-at_ok (λ u. (send recv place : ℕ) → promised send recv c.connect.new.self place ≡ promised send recv c.unwrap-slot.result.now.endpoint place) c.unwrap.ensures c.connect.ensures.reserved) ((IfOk-at_ok (λ u. (pool : Pool) (held : List RegisteredRegion) → IsEnd pool held c.unwrap-slot.result.now.endpoint → IsEnd pool held c.connect.new.self) c.unwrap.ensures c.connect.ensures.sound) pool _ (end-sound pool _ nothing c.in_ok-place.place (entry _ c.in_ok-place.place c.unwrap-slot.result.now) is.is (entry-there _ c.in_ok-place.place c.unwrap-slot.result.now (sym c.get_index_mut.ensures.value ∙ ap option_copied_mut c.unwrap-slot.ensures))).end) in
    let found = end-found pool c.self.inside.queues.entries c.self.inside.ends.entries c.args.name c.in_ok-place.place (entry c.self.inside.ends.entries c.in_ok-place.place c.unwrap-slot.result.now) is.is.end_names c.in_ok-place.ensures.place (entry-there c.self.inside.ends.entries c.in_ok-place.place c.unwrap-slot.result.now value) in
    let stands = st.stands n in
    let step = IfOk-at_ok (λ u. (s : EndWithMemory) → s.end ≡ c.unwrap-slot.result.now.endpoint → (k : Context) (names : Names) → IsHome k names s → linked k (end_at names s) (fresh_link c.args.peer c.args.partner c.args.terms.now) ≡ home k names (record s { end = c.connect.new.self })) c.unwrap.ensures c.connect.ensures.step in
    ap (λ e. connects d (context_in pool n (record { domains = c.self.inside.domains.keys; regions = c.self.inside.regions; queues = c.self.inside.queues.entries; ends = c.self.inside.ends.entries })) e c.args.peer c.args.partner c.args.terms.now) found.end
    ∙ ap (λ x. answers (with_context d x) answer.Done) (step (site_in pool (record { domains = c.self.inside.domains.keys; regions = c.self.inside.regions; queues = c.self.inside.queues.entries; ends = c.self.inside.ends.entries }) (entry c.self.inside.ends.entries c.in_ok-place.place c.unwrap-slot.result.now)) refl (context_in pool n (record { domains = c.self.inside.domains.keys; regions = c.self.inside.regions; queues = c.self.inside.queues.entries; ends = c.self.inside.ends.entries })) (names_in c.self.inside.queues.entries (entry c.self.inside.ends.entries c.in_ok-place.place c.unwrap-slot.result.now)) stands ∙ st.shown n))
