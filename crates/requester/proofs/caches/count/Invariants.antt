-- What is counted so far and what the rest gives are the whole.
use Rattle.std.proofs.Common.{◌≡◌, ◌+◌, ◌-◌, ◌≤◌, length, drop}
use Rattle.rdma_types.specs.Spans.{end_number, first_number}
use Rattle.protocol.specs.Requester.{packets_in_flight, reads_in_flight}
use Rattle.requester.specs.Sending.{bares}
use Rattle.requester.proofs.caches.count.Given as goal

abbrev pub invariant-loop-p : goal.invariant-loop-p
invariant-loop-p l =
    (l.index ≤ length l.queue.items)
    × (l.counts.end ≡ l.numbers.first + first_number (bares l.queue.items) l.terms.mtu l.index)
    × (l.counts.packets + packets_in_flight (drop l.index (bares l.queue.items)) l.terms.mtu l.counts.end l.numbers.una l.numbers.next ≡ packets_in_flight (bares l.queue.items) l.terms.mtu l.numbers.first l.numbers.una l.numbers.next)
    × (l.counts.reads + reads_in_flight (drop l.index (bares l.queue.items)) l.terms.mtu l.counts.end l.numbers.una l.numbers.next ≡ reads_in_flight (bares l.queue.items) l.terms.mtu l.numbers.first l.numbers.una l.numbers.next)

abbrev pub decreases-loop-p : goal.decreases-loop-p
decreases-loop-p l = length l.queue.items - l.index
