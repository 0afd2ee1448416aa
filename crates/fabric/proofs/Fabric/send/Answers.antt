use Rattle.std.proofs.Common.{length-append, length-drop, ◌≡◌, ◌+◌, ◌-◌, ◌<◌, [], ◌∷◌, ◌++◌, drop, length, refl, ap, arith}
use Rattle.protocol.specs.Fabric.{flight_of, sending}
use Rattle.protocol.proofs.Histories.{length-after_blanks}
use Rattle.fabric.proofs.Stores.{settled_within-send, is_store-send, forgetting-send, kept_flight-oldest}
use Rattle.fabric.proofs.Fabric.send.Goals as goal

pub unsettled_from-self-inside-requires : goal.unsettled_from-self-inside-requires
unsettled_from-self-inside-requires c =
    let f = c.self.inside in
    let n = c.saturating_sub-count.result in
    let count : n ≡ length f.ring.items + 1 - 16384 = omega arith in
    let same : c.push_back_reserved.new.self.items ≡ drop n f.ring.items ++ flight_of c.args.from c.args.s ∷ [] = rw (c.push_back_reserved.ensures.items, c.forget_oldest-forgotten.ensures.rest, c.new.ensures, count) refl in
    let within = settled_within-send f.gone f.settled n f.ring.items (flight_of c.args.from c.args.s) c.self.invariant.0 count in
    omega (arith, within, ap length same)

pub invariant_of-self : goal.invariant_of-self
invariant_of-self c =
    let f = c.self.inside in
    let n = c.saturating_sub-count.result in
    let count : n ≡ length f.ring.items + 1 - 16384 = omega arith in
    let same : c.push_back_reserved.new.self.items ≡ drop n f.ring.items ++ flight_of c.args.from c.args.s ∷ [] = rw (c.push_back_reserved.ensures.items, c.forget_oldest-forgotten.ensures.rest, c.new.ensures, count) refl in
    let few : f.gone + length f.ring.items + 1 < 9223372036854775808 = omega (arith, length-after_blanks f.gone f.ring.items, ap length c.self.view_is) in
    (rw same (is_store-send f.gone f.settled _ n f.ring.items (flight_of c.args.from c.args.s) c.self.invariant.0 count few (rw (← same, ← c.saturating_sub-self-inside.ensures) c.unsettled_from-self-inside.ensures)), omega (arith, c.self.invariant.1))

pub returns-clause-forgotten : goal.returns-clause-forgotten
returns-clause-forgotten c =
    let f = c.self.inside in
    rw (c.forget_oldest-forgotten.ensures.oldest, ← c.self.view_is) (kept_flight-oldest f.gone f.ring.items c.self.invariant.0.room c.self.invariant.0.full)

pub returns-clause-sent : goal.returns-clause-sent
unfolding sending
returns-clause-sent c =
    let f = c.self.inside in
    let n = c.saturating_sub-count.result in
    let count : n ≡ length f.ring.items + 1 - 16384 = omega arith in
    let same : c.push_back_reserved.new.self.items ≡ drop n f.ring.items ++ flight_of c.args.from c.args.s ∷ [] = rw (c.push_back_reserved.ensures.items, c.forget_oldest-forgotten.ensures.rest, c.new.ensures, count) refl in
    rw (same, ← c.self.view_is) (forgetting-send f.gone n f.ring.items (flight_of c.args.from c.args.s) c.self.invariant.0.room c.self.invariant.0.full count)

pub returns-clause-count : goal.returns-clause-count
returns-clause-count c =
    let f = c.self.inside in
    let n = c.saturating_sub-count.result in
    let count : n ≡ length f.ring.items + 1 - 16384 = omega arith in
    let same : c.push_back_reserved.new.self.items ≡ drop n f.ring.items ++ flight_of c.args.from c.args.s ∷ [] = rw (c.push_back_reserved.ensures.items, c.forget_oldest-forgotten.ensures.rest, c.new.ensures, count) refl in
    omega (arith, length-after_blanks (f.gone + n) c.push_back_reserved.new.self.items, length-after_blanks f.gone f.ring.items, ap length c.self.view_is, ap length same, length-append (drop n f.ring.items) (flight_of c.args.from c.args.s ∷ []), length-drop n f.ring.items, c.self.invariant.0.room)
