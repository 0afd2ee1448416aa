use Rattle.std.proofs.Common.{◌≡◌, sym, ap, ◌∙◌}
use Rattle.std.specs.Option.{option_map}
use Rattle.std.specs.Map.Iter.{deref_pair}
use Rattle.std.specs.Map.{keys_of, lookup}
use Rattle.std.specs.Result.{result_err}
use Rattle.std.specs.Prelude.{Some, is_some, not, slice_get, bytes_eq, position}
use Rattle.std.proofs.lemmas.List.Elements.{recursion_from_All}
use Rattle.rdma_types.specs.Causes.{first_cause}
use Rattle.rdma_types.specs.declared.answers.Refusal.TheVariants.{NoSuch}
use Rattle.protocol.specs.Refusals.{has_end}
use Rattle.endpoint_core.specs.Sound.{IsEnd}
use Rattle.context_core.specs.Context.{HasQueues, context_in}
use Rattle.context_core.specs.Requests.{slot_causes}
use Rattle.context_core.proofs.EndsByName.{end-absent}
use Rattle.context_core.proofs.FirstCause.{first-holds}
use Rattle.context_core.proofs.SendRefusals.{request-refused}
use Rattle.context_core.proofs.EndStepCalls.{each-at}
use Rattle.context_core.proofs.postings.admitted.Goals as goal

pub returns-in_default-clause-refused : goal.returns-in_default-clause-refused
unfolding context_in
returns-in_default-clause-refused c = λ pool n h is rs qs es.
    let absent = end-absent pool h.queues h.ends c.args.name (ap (λ x. is_some (lookup (bytes_eq c.args.name) x)) es ∙ (sym c.get_index_of.ensures.found ∙ ap is_some c.in_default.is)) in
    sym (first-holds NoSuch (not (has_end (context_in pool n h) c.args.name)) _ (ap not absent))

pub source_at-requires-clause-there : goal.source_at-requires-clause-there
source_at-requires-clause-there c = (each-at (HasQueues c.args.queues.now.entries) c.args.ends.now.entries c.in-Some.place (c.unwrap.result.0.now, c.unwrap.result.1.now) (recursion_from_All (HasQueues c.args.queues.now.entries) c.args.ends.now.entries c.requires.placed) (sym c.get_index.ensures.entry ∙ ap (option_map deref_pair) c.unwrap.ensures)).0

pub source_at-requires-clause-end : goal.source_at-requires-clause-end
source_at-requires-clause-end c = (c.requires.sound.0, each-at (λ e. IsEnd c.requires.sound.0 c.args.regions.now e.1.endpoint) c.args.ends.now.entries c.in-Some.place (c.unwrap.result.0.now, c.unwrap.result.1.now) (recursion_from_All (λ e. IsEnd c.requires.sound.0 c.args.regions.now e.1.endpoint) c.args.ends.now.entries c.requires.sound.1) (sym c.get_index.ensures.entry ∙ ap (option_map deref_pair) c.unwrap.ensures))

pub returns-in-Ok-clause-refused : goal.returns-in-Ok-clause-refused
returns-in-Ok-clause-refused c = λ pool n h is rs qs es.
    let there : slice_get c.args.ends.now.entries c.in-Some.place ≡ Some (c.unwrap.result.0.now, c.unwrap.result.1.now) = sym c.get_index.ensures.entry ∙ ap (option_map deref_pair) c.unwrap.ensures in
    ap result_err (sym c.in-Ok.is)
    ∙ request-refused pool n h c.args.name c.in-Some.place (c.unwrap.result.0.now, c.unwrap.result.1.now) c.args.request.now (result_err c.source_at.result) is (ap (λ x. position (bytes_eq c.args.name) (keys_of x)) es ∙ (sym c.get_index_of.ensures.index ∙ c.in-Some.is)) (ap (λ x. slice_get x c.in-Some.place) es ∙ there)
    (c.source_at.ensures.refused pool ∙ (ap (λ x. first_cause (slot_causes pool x c.args.queues.now.entries c.unwrap.result.1.now c.args.request.now)) (sym rs) ∙ ap (λ x. first_cause (slot_causes pool h.regions x c.unwrap.result.1.now c.args.request.now)) (sym qs)))

pub returns-in-Err-clause-refused : goal.returns-in-Err-clause-refused
returns-in-Err-clause-refused c = λ pool n h is rs qs es.
    let there : slice_get c.args.ends.now.entries c.in-Some.place ≡ Some (c.unwrap.result.0.now, c.unwrap.result.1.now) = sym c.get_index.ensures.entry ∙ ap (option_map deref_pair) c.unwrap.ensures in
    ap result_err (sym c.in-Err.is)
    ∙ request-refused pool n h c.args.name c.in-Some.place (c.unwrap.result.0.now, c.unwrap.result.1.now) c.args.request.now (result_err c.source_at.result) is (ap (λ x. position (bytes_eq c.args.name) (keys_of x)) es ∙ (sym c.get_index_of.ensures.index ∙ c.in-Some.is)) (ap (λ x. slice_get x c.in-Some.place) es ∙ there)
    (c.source_at.ensures.refused pool ∙ (ap (λ x. first_cause (slot_causes pool x c.args.queues.now.entries c.unwrap.result.1.now c.args.request.now)) (sym rs) ∙ ap (λ x. first_cause (slot_causes pool h.regions x c.unwrap.result.1.now c.args.request.now)) (sym qs)))
