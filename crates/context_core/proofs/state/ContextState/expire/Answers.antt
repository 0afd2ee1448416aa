use Rattle.std.proofs.Common.{sym, subst, ap, ◌∙◌}
use Rattle.std.specs.Option.{option_copied_mut}
use Rattle.std.specs.Prelude.{map, option_map}
use Rattle.std.specs.Result.{result_err}
use Rattle.std.proofs.lemmas.Result.{err_from_is_err_and}
use Rattle.protocol.specs.DeviceStep.{answers, expires, with_context}
use Rattle.endpoint_core.specs.Answers.{expiry_of}
use Rattle.endpoint_core.specs.Ends.{link_in}
use Rattle.endpoint_core.specs.Queues.{nothing}
use Rattle.context_core.specs.Context.{Holding, IsContext, context_in, end_of, names_in}
use Rattle.context_core.proofs.EndsByName.{end-found, some-shown}
use Rattle.context_core.proofs.EndRules.{expires-is}
use Rattle.context_core.proofs.EndSteps.{after}
use Rattle.context_core.proofs.EndStepCalls.{steps, end-sound, entry, entry-there, is-linked}
use Rattle.context_core.proofs.state.ContextState.expire.Goals as goal

pub returns-in_err-place-clause-refused : goal.returns-in_err-place-clause-refused
unfolding context_in
returns-in_err-place-clause-refused c = λ n.
    let p = err_from_is_err_and c.from_residual.result c.from_residual.ensures.1 in
    rw (p.1, p.2) (ap result_err (sym c.in_err-place.was) ∙ c.connected.ensures.refused c.args.pool.now c.self.inside.queues.entries (context_in c.args.pool.now n c.args.self.now) (ap {A = Holding} (λ h. map (end_of c.args.pool.now h.queues) h.ends) (sym c.self.view_is)))

pub expire-requires-clause-connected : goal.expire-requires-clause-connected
expire-requires-clause-connected c =
    is-linked _ c.in_ok-place.place c.unwrap-slot.result.now (sym c.get_index_mut.ensures.value ∙ ap option_copied_mut c.unwrap-slot.ensures) c.in_ok-place.ensures.linked

pub expire-requires-clause-sound : goal.expire-requires-clause-sound
expire-requires-clause-sound c =
    let is = subst (IsContext c.args.pool.now) (sym c.self.view_is) c.requires.is in
    end-sound c.args.pool.now _ nothing c.in_ok-place.place (entry _ c.in_ok-place.place c.unwrap-slot.result.now) is.is (entry-there _ c.in_ok-place.place c.unwrap-slot.result.now (sym c.get_index_mut.ensures.value ∙ ap option_copied_mut c.unwrap-slot.ensures))

pub returns-clause-refused : goal.returns-clause-refused
unfolding context_in
returns-clause-refused c = λ n. ap result_err (sym c.in_ok-place.was) ∙ c.connected.ensures.refused c.args.pool.now c.self.inside.queues.entries (context_in c.args.pool.now n c.args.self.now) (ap {A = Holding} (λ h. map (end_of c.args.pool.now h.queues) h.ends) (sym c.self.view_is))

pub returns-clause-is : goal.returns-clause-is
returns-clause-is c =
    let is = subst (IsContext c.args.pool.now) (sym c.self.view_is) c.requires.is in
    (steps c.args.pool.now c.expire.new.memory.0 _ c.in_ok-place.place c.unwrap-slot.result.now c.expire.new.memory.1.0 c.expire.new.memory.1.1.0.entries c.expire.new.self is (sym c.get_index_mut.ensures.value ∙ ap option_copied_mut c.unwrap-slot.ensures) c.expire.ensures.keeps c.expire.ensures.sound).is

pub returns-clause-moves : goal.returns-clause-moves
returns-clause-moves c =
    let is = subst (IsContext c.args.pool.now) (sym c.self.view_is) c.requires.is in
    rw (← c.self.view_is) (steps c.args.pool.now c.expire.new.memory.0 _ c.in_ok-place.place c.unwrap-slot.result.now c.expire.new.memory.1.0 c.expire.new.memory.1.1.0.entries c.expire.new.self is (sym c.get_index_mut.ensures.value ∙ ap option_copied_mut c.unwrap-slot.ensures) c.expire.ensures.keeps c.expire.ensures.sound).moves

pub returns-clause-numbers : goal.returns-clause-numbers
returns-clause-numbers c =
    let is = subst (IsContext c.args.pool.now) (sym c.self.view_is) c.requires.is in
    rw (← c.self.view_is) (steps c.args.pool.now c.expire.new.memory.0 _ c.in_ok-place.place c.unwrap-slot.result.now c.expire.new.memory.1.0 c.expire.new.memory.1.1.0.entries c.expire.new.self is (sym c.get_index_mut.ensures.value ∙ ap option_copied_mut c.unwrap-slot.ensures) c.expire.ensures.keeps c.expire.ensures.sound).numbers

pub returns-clause-expired : goal.returns-clause-expired
unfolding context_in
returns-clause-expired c =
    let is = subst (IsContext c.args.pool.now) (sym c.self.view_is) c.requires.is in
    let value = sym c.get_index_mut.ensures.value ∙ ap option_copied_mut c.unwrap-slot.ensures in
    let st = steps c.args.pool.now c.expire.new.memory.0 _ c.in_ok-place.place c.unwrap-slot.result.now c.expire.new.memory.1.0 c.expire.new.memory.1.1.0.entries c.expire.new.self is value c.expire.ensures.keeps c.expire.ensures.sound in
    let found = end-found c.args.pool.now c.self.inside.queues.entries c.self.inside.ends.entries c.args.name c.in_ok-place.place (entry c.self.inside.ends.entries c.in_ok-place.place c.unwrap-slot.result.now) is.is.end_names c.in_ok-place.ensures.place (entry-there c.self.inside.ends.entries c.in_ok-place.place c.unwrap-slot.result.now value) in
    let linked = some-shown c.args.pool.now c.unwrap-slot.result.now.endpoint.link (is-linked _ c.in_ok-place.place c.unwrap-slot.result.now value c.in_ok-place.ensures.linked) in
    rw (← c.self.view_is) (λ n d same.
    ap (expires d (context_in c.args.pool.now n _)) found.end
    ∙ (expires-is d (context_in c.args.pool.now n _) (end_of c.args.pool.now c.self.inside.queues.entries (entry c.self.inside.ends.entries c.in_ok-place.place c.unwrap-slot.result.now)) linked same
    ∙ (ap (λ x. answers (with_context d x) (expiry_of (option_map (link_in c.args.pool.now) c.unwrap-slot.result.now.endpoint.link))) (c.expire.ensures.step (context_in c.args.pool.now n _) (names_in c.self.inside.queues.entries (entry c.self.inside.ends.entries c.in_ok-place.place c.unwrap-slot.result.now)) (st.stands n) ∙ st.shown n)
    ∙ ap (λ a. answers (with_context d (context_in c.expire.new.memory.0 n (after (record { domains = c.self.inside.domains.keys; regions = c.self.inside.regions; queues = c.self.inside.queues.entries; ends = c.self.inside.ends.entries }) c.in_ok-place.place (entry c.self.inside.ends.entries c.in_ok-place.place c.unwrap-slot.result.now) c.expire.new.memory.1.0 c.expire.new.memory.1.1.0.entries c.expire.new.self))) a) (sym c.expire.ensures.answer))))
