-- The entries of an end that fails, and queues with more entries.
use Rattle.std.proofs.Common.{◌≡◌, ℕ, List, [], ◌∷◌, ◌++◌, true, false, refl, ap, ◌∙◌}
use Rattle.rdma_types.specs.declared.names.Name.{Name}
use Rattle.rdma_types.specs.declared.requests.Completion.{Completion}
use Rattle.rdma_types.specs.declared.requests.Receive.{Receive}
use Rattle.rdma_types.specs.declared.requests.WcStatus.{WcStatus}
use Rattle.rdma_types.specs.declared.requests.WcStatus.TheVariants as status
use Rattle.rdma_types.specs.Kinds.{receive_done, request_done}
use Rattle.rdma_types.specs.Lists.{has_name, named}
use Rattle.rdma_types.specs.Objects.{CompletionQueue, Posted, no_queue}
use Rattle.packetless_machine.specs.Machine.{completed, longer}
use Rattle.packetless_machine.specs.Steps.{failed_receives, failed_requests}
use Rattle.law_simulation.proofs.relation.Tables.{has_name-store, named-store_same, replaced-stored}
use Rattle.mailbox_rules.specs.declared.due.Due.{Due}
use Rattle.mailbox_rules.specs.Working.{is_success}
use Rattle.law_mailbox.specs.Kept.{dues_by, dues_of}

-- ---- completions with an error make nothing due

error_none : (n : ℕ) (x : Completion) → is_success x.status ≡ false → dues_by n x ≡ []
error_none n x e = rw e refl

pub requests_none : (n number : ℕ) (s : WcStatus) (rs : List Posted) → is_success s ≡ false → dues_of n (failed_requests number s rs) ≡ []
unfolding failed_requests request_done
requests_none n number s [] e = refl
requests_none n number s (r ∷ rs) e =
    ap (λ (ds : List Due). ds ++ dues_of n (failed_requests number status.Flush rs)) (error_none n (request_done number r s 0) e)
    ∙ requests_none n number status.Flush rs refl

pub receives_none : (n number : ℕ) (vs : List Receive) → dues_of n (failed_receives number vs) ≡ []
unfolding failed_receives receive_done
receives_none n number [] = refl
receives_none n number (v ∷ vs) = receives_none n number vs

-- ---- a queue with more entries, in a list of queues

pub longer_here : (q : Name) (more : List Completion) (queues : List CompletionQueue) → has_name (λ x. x.name) q queues ≡ true → (named (λ x. x.name) no_queue q queues).name ≡ q →
    named (λ x. x.name) no_queue q (completed q more queues) ≡ longer (named (λ x. x.name) no_queue q queues) more
unfolding completed
longer_here q more queues there same =
    ap (named (λ x. x.name) no_queue q) (replaced-stored (λ x. x.name) q (longer (named (λ x. x.name) no_queue q queues) more) queues there)
    ∙ named-store_same (λ x. x.name) no_queue q (longer (named (λ x. x.name) no_queue q queues) more) queues same

pub still_named : (q p : Name) (more : List Completion) (queues : List CompletionQueue) → has_name (λ x. x.name) q queues ≡ true → (named (λ x. x.name) no_queue q queues).name ≡ q →
    has_name (λ x. x.name) p (completed q more queues) ≡ has_name (λ x. x.name) p queues
unfolding completed
still_named q p more queues there same =
    ap (has_name (λ x. x.name) p) (replaced-stored (λ x. x.name) q (longer (named (λ x. x.name) no_queue q queues) more) queues there)
    ∙ has_name-store (λ x. x.name) q p (longer (named (λ x. x.name) no_queue q queues) more) queues there same
