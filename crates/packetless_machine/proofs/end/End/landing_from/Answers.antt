use Rattle.std.proofs.Common.{arith}
use Rattle.packetless_machine.proofs.Marks.{landing_past}
use Rattle.packetless_machine.proofs.end.End.landing_from.Goals as goal

pub next_landing-requires-2-clause-fits : goal.next_landing-requires-2-clause-fits
next_landing-requires-2-clause-fits c =
    let whole = landing_past _ _ _ _ c.args.n c.self.invariant.mark c.if-n-number.false in
    rw c.deref-2.ensures.value (omega (arith, whole, rw (← c.self.view_is) at c.requires.fits))

pub overflow_add-result : goal.overflow_add-result
overflow_add-result c =
    let whole = landing_past _ _ _ _ c.args.n c.self.invariant.mark c.if-n-number.false in
    rw (c.next_landing-2.ensures, c.deref-2.ensures.value, whole) (omega (arith, rw (← c.self.view_is) at c.requires.fits))

pub returns : goal.returns
returns c =
    rw (← c.self.view_is, c.next_landing-2.ensures, c.deref-2.ensures.value) (landing_past _ _ _ _ c.args.n c.self.invariant.mark c.if-n-number.false)
