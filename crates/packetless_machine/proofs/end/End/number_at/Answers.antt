use Rattle.std.proofs.Common.{arith}
use Rattle.packetless_machine.proofs.Marks.{first_past}
use Rattle.packetless_machine.proofs.end.End.number_at.Goals as goal

pub first_number-requires-2-clause-fits : goal.first_number-requires-2-clause-fits
first_number-requires-2-clause-fits c =
    let whole = first_past _ _ _ _ c.args.i c.self.invariant.mark c.if-i-place.false in
    rw c.deref-2.ensures.value (omega (arith, whole, rw (← c.self.view_is) at c.requires.fits))

pub overflow_add-result : goal.overflow_add-result
overflow_add-result c =
    let whole = first_past _ _ _ _ c.args.i c.self.invariant.mark c.if-i-place.false in
    rw (c.first_number-2.ensures, c.deref-2.ensures.value, whole) (omega (arith, rw (← c.self.view_is) at c.requires.fits))

pub returns : goal.returns
returns c =
    rw (← c.self.view_is, c.first_number-2.ensures, c.deref-2.ensures.value) (first_past _ _ _ _ c.args.i c.self.invariant.mark c.if-i-place.false)
