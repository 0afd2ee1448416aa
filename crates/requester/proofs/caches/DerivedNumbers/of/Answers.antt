-- What is counted and sought is what is held.
use Rattle.std.proofs.Common.{◌≡◌, ◌+◌, ◌-◌, ◌≤◌, arith, sym, ap, ◌∙◌}
use Rattle.rdma_types.specs.Spans.{request_of}
use Rattle.rdma_types.proofs.Numbers.{landing_before_end}
use Rattle.requester.specs.Sending.{bares}
use Rattle.requester.proofs.Keeping.{IsMark-front, IsPast-none}
use Rattle.requester.proofs.caches.DerivedNumbers.of.Goals as goal

pub seek_barrier-barrier-requires-clause-mark : goal.seek_barrier-barrier-requires-clause-mark
seek_barrier-barrier-requires-clause-mark c = IsMark-front (bares c.args.queue.now.items) c.args.terms.now.mtu

pub overflow_add-result : goal.overflow_add-result
overflow_add-result c =
    let o = c.requires.order in
    let w = landing_before_end (bares c.args.queue.now.items) c.args.terms.now.mtu (c.args.numbers.now.una - c.args.numbers.now.first) (omega (arith, o.next, o.top, o.all)) in
    omega (arith, w, c.seek_barrier-barrier.ensures.number, o.limit)

pub returns : goal.returns
returns c =
    let b = c.seek_barrier-barrier in
    let gone : c.args.numbers.now.first + b.result.number - c.args.numbers.now.first ≡ b.result.number = omega arith in
    record {
      mtu = c.requires.mtu;
      order = c.requires.order;
      end = c.count-counts.ensures.end;
      cursor = IsMark-front (bares c.args.queue.now.items) c.args.terms.now.mtu;
      cursor_before = omega arith;
      past = IsPast-none (bares c.args.queue.now.items) c.args.terms.now.mtu (record { index = 0; offset = 0 });
      barrier = ap (λ n. c.args.numbers.now.first + n) b.ensures.number;
      barrier_mark = b.ensures.mark;
      barrier_index = b.ensures.index ∙ ap (λ n. request_of (bares c.args.queue.now.items) c.args.terms.now.mtu n) (sym gone);
      packets = c.count-counts.ensures.packets;
      reads = c.count-counts.ensures.reads;
    }
