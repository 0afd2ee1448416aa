-- Requests that leave the queue: told in posting order, or cut off where an end fails.
use Rattle.std.specs.Prelude.{ℕ, ◌+◌, ◌≡◌, false, drop, nat_lt, if◌then◌else◌, Option, None, slice_get}
use Rattle.rdma_types.specs.declared.requests.Terms.{Terms}
use Rattle.rdma_types.specs.Spans.{first_number}
use Rattle.end_queues.specs.declared.work_queues.posted.QueuedRequest.{QueuedRequest}
use Rattle.protocol.specs.Requester.{cut_by, end_of_queue, told_count}
use Rattle.protocol.specs.State.{Sender}
use Rattle.requester.specs.Sending.{Sending, sender_of}

-- the numbers of an end that fails: all of them the first past the last request, but that of the first request left
abbrev pub failed_numbers : ℕ → Sender → Sender
failed_numbers n s = record s { una = n; next = n; top = n; spent = 0; waits = 0; rnr_wait = false }

-- the sender without its oldest request
abbrev pub without_oldest : Terms → Sender → Sender
without_oldest terms s = cut_by terms s 1

-- the sender of an end that fails, without its oldest request
unfoldable pub failing_without_oldest : Terms → Sender → Sender
failing_without_oldest terms s = failed_numbers (end_of_queue terms s) (without_oldest terms s)

-- the oldest request, where all its numbers are below `una`
abbrev pub next_to_tell : Sending → Option QueuedRequest
next_to_tell v = if nat_lt 0 (told_count v.terms (sender_of v)) then slice_get v.items 0 else None

-- terms and depth stay, and the oldest request is gone
pub record LosesOldest (old new : Sending) : Type 0 where
  pub terms : new.terms ≡ old.terms
  pub depth : new.depth ≡ old.depth
  pub items : new.items ≡ drop 1 old.items
