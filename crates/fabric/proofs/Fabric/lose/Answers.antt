use Rattle.std.proofs.Common.{refl, arith}
use Rattle.std.proofs.lemmas.Option.{slice_get-get_or}
use Rattle.protocol.specs.Fabric.{losing, marked_lost}
use Rattle.fabric.proofs.Stores.{marked-here, marked-gone, is_store-set, settled_within, is_settled-lost, kept_flight-here, kept_flight-gone}
use Rattle.fabric.proofs.Fabric.lose.Goals as goal

pub returns-in_default-clause-lost : goal.returns-in_default-clause-lost
unfolding losing
returns-in_default-clause-lost c =
    let f = c.self.inside in
    rw (← c.self.view_is) (marked-gone marked_lost f.gone c.len.result f.ring.items c.args.k c.self.invariant.0.full (omega arith) c.in_default.ensures)

pub returns-in_default-clause-known : goal.returns-in_default-clause-known
returns-in_default-clause-known c =
    let f = c.self.inside in
    rw (← c.self.view_is, kept_flight-gone f.gone c.len.result f.ring.items c.args.k c.self.invariant.0.full (omega arith) c.in_default.ensures) refl

pub unsettled_from-self-inside-requires : goal.unsettled_from-self-inside-requires
unsettled_from-self-inside-requires c =
    let f = c.self.inside in
    omega (arith, settled_within f.gone f.settled f.ring.items c.self.invariant.0)

pub invariant_of-self : goal.invariant_of-self
invariant_of-self c =
    let f = c.self.inside in
    (rw c.lose.ensures (is_store-set f.gone f.settled _ c.in-Some.place f.ring.items _ c.self.invariant.0 (is_settled-lost c.index_mut.result.now) (rw (← c.lose.ensures) c.unsettled_from-self-inside.ensures)), c.self.invariant.1)

pub returns-clause-lost : goal.returns-clause-lost
unfolding losing
returns-clause-lost c =
    let f = c.self.inside in
    let here = marked-here marked_lost f.gone f.ring.items c.args.k c.in-Some.place c.index_mut.result.now c.self.invariant.0.room c.self.invariant.0.full (omega (arith, c.in-Some.ensures)) (omega (arith, c.in-Some.ensures)) c.index_mut.ensures.value in
    rw (c.lose.ensures, ← c.self.view_is) here

pub returns-clause-known : goal.returns-clause-known
returns-clause-known c =
    let f = c.self.inside in
    let here = kept_flight-here f.gone f.ring.items c.args.k c.in-Some.place c.self.invariant.0.room c.self.invariant.0.full (omega (arith, c.in-Some.ensures)) (omega (arith, c.in-Some.ensures)) in
    rw (← c.self.view_is, here, slice_get-get_or f.ring.items c.in-Some.place c.index_mut.result.now (omega (arith, c.in-Some.ensures))) refl
