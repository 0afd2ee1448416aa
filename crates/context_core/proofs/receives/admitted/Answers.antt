use Rattle.std.proofs.Common.{◌≡◌, sym, ap, subst, ◌∙◌}
use Rattle.std.specs.Option.{option_map}
use Rattle.std.specs.Map.Iter.{deref_pair}
use Rattle.std.specs.Map.{keys_of, lookup, values_of}
use Rattle.std.specs.Prelude.{IfSome, is_some, not, slice_get, bytes_eq, position}
use Rattle.std.proofs.lemmas.List.Elements.{recursion_from_All}
use Rattle.rdma_types.specs.declared.answers.Refusal.TheVariants.{NoSuch}
use Rattle.protocol.specs.Refusals.{has_end, is_full}
use Rattle.memory_keys.specs.Regions.{regions_of}
use Rattle.context_core.specs.Queues.{is_full_at}
use Rattle.context_core.specs.Context.{HasQueues, context_in}
use Rattle.context_core.proofs.EndsByName.{end-absent}
use Rattle.context_core.proofs.ReceiveRefusals.{end-refused}
use Rattle.context_core.proofs.FirstCause.{first-holds}
use Rattle.context_core.proofs.EndStepCalls.{each-at}
use Rattle.context_core.proofs.receives.admitted.Goals as goal

pub returns-in_default-clause-refused : goal.returns-in_default-clause-refused
unfolding context_in
returns-in_default-clause-refused c = λ pool n h is rs qs es.
    let absent = end-absent pool h.queues h.ends c.args.name (ap (λ x. is_some (lookup (bytes_eq c.args.name) x)) es ∙ (sym c.get_index_of.ensures.found ∙ ap is_some c.in_default.is)) in
    sym (first-holds NoSuch (not (has_end (context_in pool n h) c.args.name)) _ (ap not absent))

pub refusal-requires : goal.refusal-requires
refusal-requires c = (each-at (HasQueues c.args.queues.now.entries) c.args.ends.now.entries c.in-Some.place (c.unwrap.result.0.now, c.unwrap.result.1.now) (recursion_from_All (HasQueues c.args.queues.now.entries) c.args.ends.now.entries c.requires) (sym c.get_index.ensures.entry ∙ ap (option_map deref_pair) c.unwrap.ensures)).1

pub returns-in-Some-refusal-clause-refused : goal.returns-in-Some-refusal-clause-refused
returns-in-Some-refusal-clause-refused c = λ pool n h is rs qs es.
    sym c.in-Some-refusal.is
    ∙ end-refused pool n h c.args.name c.in-Some.place (c.unwrap.result.0.now, c.unwrap.result.1.now) c.args.receive.now c.refusal.result is (ap (λ x. position (bytes_eq c.args.name) (keys_of x)) es ∙ (sym c.get_index_of.ensures.index ∙ c.in-Some.is)) (ap (λ x. slice_get x c.in-Some.place) es ∙ (sym c.get_index.ensures.entry ∙ ap (option_map deref_pair) c.unwrap.ensures))
    (λ p k x r d dp us full. c.refusal.ensures.refused p k x (r ∙ ap (regions_of p) rs) d dp us (subst (λ q. IfSome (slice_get (values_of q) c.unwrap.result.1.now.recv) (λ y. is_full k x.recv_cq ≡ is_full_at y)) qs full))

pub returns-in-None-clause-refused : goal.returns-in-None-clause-refused
returns-in-None-clause-refused c = λ pool n h is rs qs es.
    sym c.in-None.is
    ∙ end-refused pool n h c.args.name c.in-Some.place (c.unwrap.result.0.now, c.unwrap.result.1.now) c.args.receive.now c.refusal.result is (ap (λ x. position (bytes_eq c.args.name) (keys_of x)) es ∙ (sym c.get_index_of.ensures.index ∙ c.in-Some.is)) (ap (λ x. slice_get x c.in-Some.place) es ∙ (sym c.get_index.ensures.entry ∙ ap (option_map deref_pair) c.unwrap.ensures))
    (λ p k x r d dp us full. c.refusal.ensures.refused p k x (r ∙ ap (regions_of p) rs) d dp us (subst (λ q. IfSome (slice_get (values_of q) c.unwrap.result.1.now.recv) (λ y. is_full k x.recv_cq ≡ is_full_at y)) qs full))
