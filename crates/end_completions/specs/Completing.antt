-- Completions that take reserved places of a queue.
use Rattle.std.specs.Prelude.{ℕ, ◌-◌, List, [], ◌∷◌, ◌++◌, Option, Some, None, if◌then◌else◌}
use Rattle.rdma_types.specs.declared.requests.Completion.{Completion}
use Rattle.end_queues.specs.Completions.{Queue}
use Rattle.end_queues.specs.declared.work_queues.posted.QueuedRequest.{QueuedRequest}
use Rattle.requester.specs.Sending.{Sending, bare, sender_of}
use Rattle.protocol.specs.EndWords.{done_request}
use Rattle.protocol.specs.Requester as rows

-- the queue with these completions, where the work that took so many reserved places is done
abbrev pub settled : ℕ → List Completion → Queue → Queue
settled n more q = record q { reserved = q.reserved - n; entries = q.entries ++ more }

-- a signaled request gives a completion
abbrev pub told_one : ℕ → QueuedRequest → List Completion
told_one number p = if p.request.signaled then done_request number (bare p) ∷ [] else []

-- how many requests are to be told
abbrev pub told_count : Sending → ℕ
told_count v = rows.told_count v.terms (sender_of v)

-- the receive, if there is one
abbrev pub listed : {A : Type 0} → Option A → List A
listed None = []
listed (Some x) = x ∷ []
