use Rattle.std.proofs.Common.{◌∙◌, sym, ap, refl, ◌≡◌, true, false, length}
use Rattle.std.specs.Prelude.{nat_le, length, ◌∷◌, []}
use Rattle.rdma_types.specs.declared.answers.Refusal.TheVariants.{NumberTaken, TooMany}
use Rattle.rdma_types.specs.Causes.{first_cause, cause}
use Rattle.rdma_types.specs.Lists.{has_name}
use Rattle.endpoint_core.specs.Queues.{queues_of}
use Rattle.context_core.proofs.FirstCause.{first-holds, first-passed, last-cause}
use Rattle.context_core.proofs.NamedLookups.{has-lookup}
use Rattle.context_core.proofs.AddedObjects.{length-queues}
use Rattle.context_core.proofs.queues.refusal.Goals as goal

pub returns-then-contains_key : goal.returns-then-contains_key
returns-then-contains_key c = λ d e.
    let there : has_name (λ q. q.name) c.args.name (queues_of c.args.queues.now.entries) ≡ true = sym (has-lookup (λ q. q.name) (λ q. record { name = q.0; capacity = q.1.capacity; entries = q.1.entries }) (λ q. refl) c.args.name c.args.queues.now.entries) ∙ (sym c.contains_key.ensures ∙ c.if-contains_key.true) in
    sym (first-holds NumberTaken (has_name (λ q. q.name) c.args.name d.queues) _ (ap (has_name (λ q. q.name) c.args.name) e ∙ there))

pub returns : goal.returns
returns c = λ d e.
    let there : has_name (λ q. q.name) c.args.name (queues_of c.args.queues.now.entries) ≡ false = sym (has-lookup (λ q. q.name) (λ q. record { name = q.0; capacity = q.1.capacity; entries = q.1.entries }) (λ q. refl) c.args.name c.args.queues.now.entries) ∙ (sym c.contains_key.ensures ∙ c.if-contains_key.false) in
    c.then_some.ensures
    ∙ (last-cause TooMany (nat_le 64 c.len.result)
    ∙ (ap (λ n. first_cause (cause TooMany (nat_le 64 n) ∷ [])) (c.len.ensures.len ∙ (sym (length-queues c.args.queues.now.entries) ∙ sym (ap length e)))
    ∙ sym (first-passed NumberTaken (has_name (λ q. q.name) c.args.name d.queues) _ (ap (has_name (λ q. q.name) c.args.name) e ∙ there))))
