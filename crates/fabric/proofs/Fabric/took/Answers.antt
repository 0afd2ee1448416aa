use Rattle.std.proofs.Common.{arith}
use Rattle.protocol.specs.Fabric.{took, marked_taken}
use Rattle.fabric.proofs.Stores.{marked-here, marked-gone, is_store-set, settled_within, is_settled-taken}
use Rattle.fabric.proofs.Fabric.took.Goals as goal

pub unsettled_from-self-inside-requires : goal.unsettled_from-self-inside-requires
unsettled_from-self-inside-requires c =
    let f = c.self.inside in
    omega (arith, settled_within f.gone f.settled f.ring.items c.self.invariant.0)

pub invariant_of-self : goal.invariant_of-self
invariant_of-self c =
    let f = c.self.inside in
    (rw c.take.ensures (is_store-set f.gone f.settled _ c.in-Some.place f.ring.items _ c.self.invariant.0 (is_settled-taken c.index_mut.result.now) (rw (← c.take.ensures) c.unsettled_from-self-inside.ensures)), c.self.invariant.1)

pub returns-in-Some-clause-taken : goal.returns-in-Some-clause-taken
unfolding took
returns-in-Some-clause-taken c =
    let f = c.self.inside in
    let here = marked-here marked_taken f.gone f.ring.items c.args.k c.in-Some.place c.index_mut.result.now c.self.invariant.0.room c.self.invariant.0.full (omega (arith, c.in-Some.ensures)) (omega (arith, c.in-Some.ensures)) c.index_mut.ensures.value in
    rw (c.take.ensures, ← c.self.view_is) here

pub returns-in_default-clause-taken : goal.returns-in_default-clause-taken
unfolding took
returns-in_default-clause-taken c =
    let f = c.self.inside in
    rw (← c.self.view_is) (marked-gone marked_taken f.gone c.len.result f.ring.items c.args.k c.self.invariant.0.full (omega arith) c.in_default.ensures)
