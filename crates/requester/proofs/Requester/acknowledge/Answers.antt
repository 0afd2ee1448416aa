-- Numbers up to the barrier are acknowledged.
use Rattle.std.proofs.Common.{◌≤◌, ◌≡◌, arith, min, sym}
use Rattle.requester.specs.Sending.{bares, sender_with}
use Rattle.requester.proofs.Keeping.{acked_few, held_acked}
use Rattle.requester.proofs.Tables.{acknowledging_moves, acknowledging_stays}
use Rattle.requester.proofs.Requester.acknowledge.Goals as goal

pub returns-then-n-self-clause-numbers : goal.returns-then-n-self-clause-numbers
returns-then-n-self-clause-numbers c = rw (← c.self.view_is) (sym (acknowledging_stays c.self.inside.terms (sender_with (bares c.self.inside.queue.items) c.self.inside.numbers) c.self.inside.caches c.self.invariant c.args.n (omega (arith, c.min-n.ensures, c.if-n-self.true))))

pub acknowledged-self-inside-requires-clause-packets : goal.acknowledged-self-inside-requires-clause-packets
acknowledged-self-inside-requires-clause-packets c = λ below. acked_few c.self.inside.terms (sender_with (bares c.self.inside.queue.items) c.self.inside.numbers) c.self.inside.caches c.self.invariant c.min-n.result (omega (arith, c.if-n-self.false)) (omega (arith, c.min-n.ensures)) below

pub invariant_of-self : goal.invariant_of-self
invariant_of-self c =
    let top : c.args.n ≤ c.self.inside.numbers.top = rw (← c.self.view_is) at c.requires in
    rw (c.acknowledged-self-inside.ensures, c.with_una-self-inside.ensures) (held_acked c.self.inside.terms (sender_with (bares c.self.inside.queue.items) c.self.inside.numbers) c.self.inside.caches c.self.invariant c.min-n.result (omega (arith, c.if-n-self.false)) (omega (arith, c.min-n.ensures)) (omega (arith, c.min-n.ensures, top)))

pub returns-clause-numbers : goal.returns-clause-numbers
returns-clause-numbers c =
    let least : c.min-n.result ≡ min c.args.n c.self.inside.caches.barrier = omega (arith, c.min-n.ensures) in
    rw (c.with_una-self-inside.ensures, ← c.self.view_is) (sym (acknowledging_moves c.self.inside.terms (sender_with (bares c.self.inside.queue.items) c.self.inside.numbers) c.self.inside.caches c.self.invariant c.args.n c.min-n.result least (omega (arith, c.if-n-self.false))))
