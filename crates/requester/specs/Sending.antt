-- A requester as contracts see it: its terms, its queue and its numbers, and the protocol's sender that it is.
use Rattle.std.specs.Prelude.{ℕ, ◌+◌, ◌-◌, ◌≡◌, ◌≤◌, ◌<◌, false, List, [], ◌∷◌, ◌++◌, drop, map, slice_get, unwrap_or}
use Rattle.rdma_types.specs.declared.requests.Terms.{Terms}
use Rattle.rdma_types.specs.Limits.{number_limit}
use Rattle.rdma_types.specs.Objects as objects
use Rattle.rdma_types.specs.Spans.{end_number, piece_at, span_of}
use Rattle.page_pool.specs.Pool.{Pool}
use Rattle.end_queues.specs.declared.work_queues.posted.QueuedRequest.{QueuedRequest}
use Rattle.end_queues.specs.Untold.{untold_in}
use Rattle.protocol.specs.Requester.{is_inside_read}
use Rattle.protocol.specs.State.{Sender}
use Rattle.requester.specs.declared.answers.RequesterParts.{RequesterParts}

-- a requester: the terms of its connection, its queue with the oldest request first, and its numbers
pub record Sending : Type 0 where
  pub terms : Terms
  pub depth : ℕ
  pub items : List QueuedRequest
  pub numbers : RequesterParts

-- a posted request without its bytes, at which the requester's rules do not look
abbrev pub bare : QueuedRequest → objects.Posted
bare p = record { request = p.request; payload = [] }

-- the posted requests without their bytes
abbrev pub bares : List QueuedRequest → List objects.Posted
bares ps = map bare ps

-- the sender of the protocol with these requests and numbers
abbrev pub sender_with : List objects.Posted → RequesterParts → Sender
sender_with untold n = record { untold = untold; first = n.first; una = n.una; next = n.next; top = n.top; spent = n.spent; waits = n.waits; rnr_wait = n.rnr_wait }

-- the sender that a requester is, without the bytes of its requests
abbrev pub sender_of : Sending → Sender
sender_of v = sender_with (bares v.items) v.numbers

-- .. with the bytes that they have in a pool
abbrev pub sender_in : Pool → Sending → Sender
sender_in pool v = sender_with (untold_in pool v.items) v.numbers

-- the numbers of a sender
abbrev pub numbers_of : Sender → RequesterParts
numbers_of s = record { first = s.first; una = s.una; next = s.next; top = s.top; spent = s.spent; waits = s.waits; rnr_wait = s.rnr_wait }

-- terms, depth and requests stay
pub record KeepsQueue (old new : Sending) : Type 0 where
  pub terms : new.terms ≡ old.terms
  pub depth : new.depth ≡ old.depth
  pub items : new.items ≡ old.items

-- one more request at the end
abbrev pub posting : Sending → QueuedRequest → Sending
posting v p = record v { items = v.items ++ p ∷ [] }

-- nothing is sent yet
abbrev pub no_numbers : RequesterParts
no_numbers = record { first = 0; una = 0; next = 0; top = 0; spent = 0; waits = 0; rnr_wait = false }

-- numbers in order, within the requests and below the limit; inside a Read the next is only where it is the oldest
-- unacknowledged one
pub record AreInOrder (terms : Terms) (s : Sender) : Type 0 where
  pub una : s.first ≤ s.una
  pub next : s.una ≤ s.next
  pub top : s.next ≤ s.top
  pub all : s.top ≤ s.first + end_number s.untold terms.mtu
  pub limit : s.first + end_number s.untold terms.mtu < number_limit
  pub whole_reads : s.una < s.next → is_inside_read (piece_at s.untold terms.mtu (s.next - s.first)) ≡ false
  pub spent : s.spent ≤ terms.retry
