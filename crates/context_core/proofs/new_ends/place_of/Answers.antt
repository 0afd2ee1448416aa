use Rattle.std.proofs.Common.{◌≡◌, ◌∙◌, sym, ap, refl, true, false}
use Rattle.std.specs.Prelude.{is_none, is_some, not}
use Rattle.rdma_types.specs.Lists.{has_name}
use Rattle.endpoint_core.specs.Queues.{queues_of}
use Rattle.protocol.specs.DeviceStep.{word_of}
use Rattle.protocol.specs.Refusals.{lacks}
use Rattle.context_core.proofs.NamedLookups.{has-lookup}
use Rattle.context_core.proofs.CreatedEnds.{name-at}
use Rattle.context_core.proofs.new_ends.place_of.Goals as goal

pub returns-in_err-place-clause-found : goal.returns-in_err-place-clause-found
returns-in_err-place-clause-found c = λ few.
    let absent : has_name (λ q. q.name) c.in_ok-name.field-0 (queues_of c.args.queues.now.entries) ≡ false = sym (has-lookup (λ q. q.name) (λ q. record { name = q.0; capacity = q.1.capacity; entries = q.1.entries }) (λ q. refl) c.in_ok-name.field-0 c.args.queues.now.entries) ∙ (sym c.get_index_of.ensures.found ∙ ap is_some c.in_err-place.was) in
    ap is_none c.from_residual-in_err-place.ensures ∙ (sym (ap not absent) ∙ sym (ap (lacks (λ n. has_name (λ q. q.name) n (queues_of c.args.queues.now.entries))) c.in_ok-name.was))

pub returns-clause-found : goal.returns-clause-found
returns-clause-found c = λ few.
    let there : has_name (λ q. q.name) c.in_ok-name.field-0 (queues_of c.args.queues.now.entries) ≡ true = sym (has-lookup (λ q. q.name) (λ q. record { name = q.0; capacity = q.1.capacity; entries = q.1.entries }) (λ q. refl) c.in_ok-name.field-0 c.args.queues.now.entries) ∙ (sym c.get_index_of.ensures.found ∙ ap is_some c.in_ok-place.was) in
    sym (ap not there) ∙ sym (ap (lacks (λ n. has_name (λ q. q.name) n (queues_of c.args.queues.now.entries))) c.in_ok-name.was)

pub returns-clause-place : goal.returns-clause-place
returns-clause-place c = record {
  there = c.in_ok-place.ensures.within;
  named = name-at c.in_ok-name.field-0 c.args.queues.now.entries c.in_ok-place.place (sym c.get_index_of.ensures.index ∙ c.in_ok-place.was) ∙ sym (ap word_of c.in_ok-name.was);
}
