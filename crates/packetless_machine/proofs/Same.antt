-- What is put back as it was changes nothing.
use Rattle.std.proofs.Common.{◌≡◌, Option, Some, None, ap, ◌∙◌}
use Rattle.std.specs.Prelude.{IfNone}
use Rattle.rdma_types.specs.declared.names.Name.{Name}
use Rattle.rdma_types.specs.declared.names.ObjName.{ObjName}
use Rattle.rdma_types.specs.Objects.{CompletionQueue, no_queue}
use Rattle.packetless_machine.specs.Machine.{Machine, Context, End, no_context, nobody, context_of, queue_of, end_of, with_context, with_end_in, with_end, with_queue_in, with_queue}
use Rattle.packetless_machine.proofs.Places.{replaced_same}

pub same_context : (m : Machine) (c : Name) → with_context m c (context_of m c) ≡ m
unfolding with_context context_of
same_context m c = ap (λ xs. let r : Machine = record m { contexts = xs } in r) (replaced_same (λ x. x.name) c (no_context c) m.contexts)

pub same_queue : (m : Machine) (c q : Name) → with_queue m c q (queue_of m c q) ≡ m
unfolding with_queue with_queue_in queue_of
same_queue m c q =
    ap (λ qs. with_context m c (let x : Context = record (context_of m c) { queues = qs } in x)) (replaced_same (λ x. x.name) q no_queue (context_of m c).queues)
    ∙ same_context m c

pub same_end : (m : Machine) (o : ObjName) → with_end m o (end_of m o) ≡ m
unfolding with_end with_end_in end_of
same_end m o =
    ap (λ es. with_context m o.context (let x : Context = record (context_of m o.context) { ends = es } in x)) (replaced_same (λ e. e.name) o.name (nobody o) (context_of m o.context).ends)
    ∙ same_context m o.context

-- what is put back as it was changes nothing
pub ruleset same_parts = (same_context, same_queue, same_end)

pub no_queue_to_change : {X : Type 0} (r : Option X) (m : Machine) (c name : Name) (x : Context) → x ≡ context_of m c → IfNone r ((q : CompletionQueue) → with_queue_in x name q ≡ x) → IfNone r ((q : CompletionQueue) → with_queue m c name q ≡ m)
unfolding with_queue
no_queue_to_change (Some v) m c name x e h = h
no_queue_to_change None m c name x e h = λ q. ap (with_context m c) (rw e at h q) ∙ same_context m c

pub no_end_to_change : {X : Type 0} (r : Option X) (m : Machine) (o : ObjName) (x : Context) → x ≡ context_of m o.context → IfNone r ((e : End) → with_end_in x o.name e ≡ x) → IfNone r ((e : End) → with_end m o e ≡ m)
unfolding with_end
no_end_to_change (Some v) m o x e h = h
no_end_to_change None m o x e h = λ y. ap (with_context m o.context) (rw e at h y) ∙ same_context m o.context
