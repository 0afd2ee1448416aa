-- What a requester keeps beside its numbers, so that no call looks through the queue.
use Rattle.std.specs.Prelude.{ℕ, ◌+◌, ◌-◌, ◌≡◌, ◌<◌, ◌≤◌}
use Rattle.rdma_types.specs.declared.requests.Terms.{Terms}
use Rattle.rdma_types.specs.Spans.{end_number, next_landing, request_of}
use Rattle.protocol.specs.Requester.{packets_in_flight, reads_in_flight}
use Rattle.protocol.specs.State.{Sender}
use Rattle.requester.specs.declared.caches.DerivedNumbers.{DerivedNumbers}
use Rattle.requester.specs.Marks.{IsMark, IsPast}
use Rattle.requester.specs.Sending.{AreInOrder}

-- the end, a place at or before the request of `next`, the barrier and its request, and what is in flight
pub record IsHeld (terms : Terms) (s : Sender) (c : DerivedNumbers) : Type 0 where
  pub mtu : 0 < terms.mtu
  pub order : AreInOrder terms s
  pub end : c.end ≡ s.first + end_number s.untold terms.mtu
  pub cursor : IsMark s.untold terms.mtu c.cursor
  pub cursor_before : c.cursor.offset ≤ s.next - s.first
  pub past : IsPast s.untold terms.mtu c.cursor c.cursor_past
  pub barrier : c.barrier ≡ s.first + next_landing s.untold terms.mtu (s.una - s.first)
  pub barrier_mark : IsMark s.untold terms.mtu c.barrier_at
  pub barrier_index : c.barrier_at.index ≡ request_of s.untold terms.mtu (c.barrier - s.first)
  pub packets : c.packets ≡ packets_in_flight s.untold terms.mtu s.first s.una s.next
  pub reads : c.reads ≡ reads_in_flight s.untold terms.mtu s.first s.una s.next
