use Rattle.std.proofs.Common.{◌∙◌, sym, ap, refl, ◌≡◌, false, arith}
use Rattle.std.specs.Prelude.{◌++◌, ◌∷◌, [], None, bytes_eq, length, nat_le}
use Rattle.std.proofs.lemmas.Bool.Decides.{nat_tests}
use Rattle.std.specs.Map.{lookup}
use Rattle.std.proofs.lemmas.Result.{IfOk-at_ok}
use Rattle.indexmap.specs.IndexMap.{insert_entry}
use Rattle.indexmap.proofs.CallerLemmas.{insert_entry-new}
use Rattle.rdma_types.specs.Causes.{first_cause}
use Rattle.rdma_types.specs.declared.answers.Refusal.TheVariants.{NumberTaken, TooMany}
use Rattle.rdma_types.specs.Lists.{has_name}
use Rattle.protocol.specs.State.{no_context}
use Rattle.endpoint_core.specs.Queues.{queues_of}
use Rattle.context_core.specs.Causes.{queue_causes}
use Rattle.context_core.proofs.AddedObjects.{length-queues, queue-absent}
use Rattle.context_core.proofs.FirstCause.{none-here, none-later}
use Rattle.context_core.proofs.queues.make.Goals as goal

pub returns-clause-made : goal.returns-clause-made
returns-clause-made c =
    let none : first_cause (queue_causes (record no_context { queues = queues_of c.args.queues.now.entries }) c.args.name) ≡ None = sym (c.refusal.ensures (record no_context { queues = queues_of c.args.queues.now.entries }) refl) ∙ c.in_default.is in
    let lacks : has_name (λ q. q.name) c.args.name (queues_of c.args.queues.now.entries) ≡ false = none-here NumberTaken (has_name (λ q. q.name) c.args.name (queues_of c.args.queues.now.entries)) _ none in
    let absent : lookup (bytes_eq c.args.name) c.args.queues.now.entries ≡ None = queue-absent c.args.name c.args.queues.now.entries lacks in
    let keys = IfOk-at_ok (λ r. c.insert.new.self.entries ≡ insert_entry bytes_eq c.reserve.new.self.entries c.args.name c.in_ok-queue.queue) c.unwrap.ensures c.insert.ensures.entries in
    let new : insert_entry bytes_eq c.args.queues.now.entries c.args.name c.in_ok-queue.queue ≡ c.args.queues.now.entries ++ (c.args.name, c.in_ok-queue.queue) ∷ [] = insert_entry-new bytes_eq c.args.queues.now c.args.name c.in_ok-queue.queue absent in
    keys ∙ (ap (λ es. insert_entry bytes_eq es c.args.name c.in_ok-queue.queue) c.reserve.ensures.entries ∙ (new ∙ ap (λ q. c.args.queues.now.entries ++ (c.args.name, q) ∷ []) c.in_ok-queue.ensures))

pub returns-clause-absent : goal.returns-clause-absent
returns-clause-absent c = none-here NumberTaken (has_name (λ q. q.name) c.args.name (queues_of c.args.queues.now.entries)) _ (sym (c.refusal.ensures (record no_context { queues = queues_of c.args.queues.now.entries }) refl) ∙ c.in_default.is)

pub returns-clause-bounded : goal.returns-clause-bounded
returns-clause-bounded c =
    let none : first_cause (queue_causes (record no_context { queues = queues_of c.args.queues.now.entries }) c.args.name) ≡ None = sym (c.refusal.ensures (record no_context { queues = queues_of c.args.queues.now.entries }) refl) ∙ c.in_default.is in
    let few : nat_le 64 (length (queues_of c.args.queues.now.entries)) ≡ false = none-here TooMany (nat_le 64 (length (queues_of c.args.queues.now.entries))) [] (none-later NumberTaken (has_name (λ q. q.name) c.args.name (queues_of c.args.queues.now.entries)) _ none) in
    grind (arith, nat_tests, few, length-queues c.args.queues.now.entries)
