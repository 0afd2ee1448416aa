-- Nothing is sent yet.
use Rattle.std.proofs.Common.{◌≤◌, arith}
use Rattle.requester.proofs.Keeping.{end-none}
use Rattle.requester.proofs.Requester.make.Goals as goal

pub from_parts-requires-clause-order : goal.from_parts-requires-clause-order
from_parts-requires-clause-order c =
    let none = end-none c.args.terms.now.mtu in
    rw c.requires.empty (record {
      una = omega arith;
      next = omega arith;
      top = omega arith;
      all = omega arith;
      limit = omega (arith, none);
      whole_reads = λ lt. absurd (omega (arith, lt));
      spent = omega arith;
    })
