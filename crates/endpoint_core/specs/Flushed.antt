-- What is left of a connection whose work is flushed.
use Rattle.std.specs.Prelude.{ℕ, ◌≡◌, true, List, [], ◌++◌, length, map}
use Rattle.rdma_types.specs.declared.names.Name.{Name}
use Rattle.rdma_types.specs.declared.requests.Receive.{Receive}
use Rattle.rdma_types.specs.declared.requests.WcStatus.{WcStatus}
use Rattle.rdma_types.specs.declared.requests.WcStatus.TheVariants as status
use Rattle.page_pool.specs.Pool.{Pool}
use Rattle.end_queues.specs.Completions.{Queue}
use Rattle.end_queues.specs.Postings.{Queue as WorkQueue}
use Rattle.transport.specs.declared.move_core.Phase.TheVariants as phase
use Rattle.protocol.specs.EndWords.{failed_receive, in_use_by}
use Rattle.protocol.specs.Requester.{emptied_at, end_of_queue, failing}
use Rattle.requester.specs.Sending.{bares, sender_of}
use Rattle.responder.specs.Receiving.{idled}
use Rattle.end_completions.specs.Payloads.{GivesBack}
use Rattle.endpoint_core.specs.declared.end.EndLink.{EndLink}
use Rattle.endpoint_core.specs.Queues.{settle_at}

-- the receives of an end that its work takes: the one in use, then the unused ones
abbrev pub all_receives : EndLink → WorkQueue Receive → List Receive
all_receives l rs = in_use_by l.responder.receiver.progress ++ rs.items

-- the queues with the completions of all requests, the oldest with a status, and then of all receives
abbrev pub flushed_queues : ℕ → WcStatus → ℕ → ℕ → EndLink → WorkQueue Receive → List (Name × Queue) → List (Name × Queue)
flushed_queues number s send recv l rs qs =
    settle_at
    (settle_at qs send (length l.requester.items) (failing number s (bares l.requester.items)))
    recv (length (all_receives l rs)) (map (failed_receive number status.Flush) (all_receives l rs))

-- the connection is in Error, and has no requests, no receives and no message in progress
pub record IsFlushed (number : ℕ) (s : WcStatus) (send recv : ℕ) (l l' : EndLink) (rs rs' : WorkQueue Receive) (pool pool' : Pool) (qs qs' : List (Name × Queue)) : Type 0 where
  pub link : l' ≡ record l { ended = true; requester = l'.requester; responder = record l.responder { receiver = idled l.responder.receiver }; moves = record l.moves { phase = phase.Running } }
  pub terms : l'.requester.terms ≡ l.requester.terms
  pub depth : l'.requester.depth ≡ l.requester.depth
  pub items : l'.requester.items ≡ []
  pub numbers : sender_of l'.requester ≡ emptied_at (end_of_queue l.requester.terms (sender_of l.requester))
  pub receives : rs' ≡ record rs { items = [] }
  pub queues : qs' ≡ flushed_queues number s send recv l rs qs
  pub lists : GivesBack pool pool' l.requester.items
